-- One way fares stand alone: a part of a lawful construction shares its unit with no one way fare before it.
use Rattle.std.proofs.Common.{◌≡◌, ℕ, zero, suc, ◌+◌, ◌-◌, ◌<◌, ◌≤◌, Bool, true, false, ◌&&◌, ◌||◌, max, List, length, filter, None, refl, subst, sym, ◌∙◌, inl, inr, arith}
use Rattle.std.specs.List.{range_with_len, list_any}
use Rattle.std.proofs.lemmas.Bool.{cases_Bool, cases_eq, eq-eqb, eqb-true, lt-ltb}
use Rattle.fare_tariff.specs.Tariff.{Tariff}
use Rattle.fare_rules.specs.declared.part.Part.{Part}
use Rattle.fare_rules.specs.Construction.{unit_of, places, is_own, own, greatest_unit}
use Rattle.fare_rules.specs.Shape.{is_same_unit, is_ow, holds_ow, is_mixed, mixed}
use Rattle.fare_units.specs.Walk.{is_mixed_with, mixes}
use Rattle.fare_rules.proofs.NumberLemmas.{find_none, any_kept_none}

true_false : true ≡ false → ⊥
true_false e = cc

-- the unit of a place is at most the greatest
unit_in : (parts : List Part) (first n k : ℕ) → first ≤ k → k < first + n → unit_of parts k ≤ greatest_unit parts (range_with_len first n)
unit_in parts first zero k low high = absurd (omega arith)
unit_in parts first (suc n) k low high =
    elim (cases_eq k first) [
      | inl e ↦
          let P : ℕ → Type 0 = λ j. unit_of parts j ≤ max (unit_of parts first) (greatest_unit parts (range_with_len (first + 1) n)) in
          subst P (sym e) (omega arith)
      | inr other ↦
          let h : unit_of parts k ≤ greatest_unit parts (range_with_len (first + 1) n) = unit_in parts (first + 1) n k (omega arith) (omega arith) in
          omega arith
    ]

-- what is kept of a range has a member where one passes, and two where two do
one_kept : (p : ℕ → Bool) (first n k : ℕ) → first ≤ k → k < first + n → p k ≡ true → 1 ≤ length (filter p (range_with_len first n))
one_kept p first zero k low high h = absurd (omega arith)
one_kept p first (suc n) k low high h =
    elim (cases_Bool (p first)) [
      | inl t ↦ rw t (omega arith)
      | inr f ↦ elim (cases_eq k first) [
        | inl e ↦ let Q : ℕ → Type 0 = λ j. p j ≡ true in absurd (true_false (sym (subst Q e h) ∙ f))
        | inr other ↦ rw f (one_kept p (first + 1) n k (omega arith) (omega arith) h)
      ]
    ]

two_kept : (p : ℕ → Bool) (first n j k : ℕ) → first ≤ j → j < k → k < first + n → p j ≡ true → p k ≡ true → 1 < length (filter p (range_with_len first n))
two_kept p first zero j k low order high a b = absurd (omega arith)
two_kept p first (suc n) j k low order high a b =
    elim (cases_Bool (p first)) [
      | inl t ↦
          let more : 1 ≤ length (filter p (range_with_len (first + 1) n)) = one_kept p (first + 1) n k (omega arith) (omega arith) b in
          rw t (omega arith)
      | inr f ↦ elim (cases_eq j first) [
        | inl e ↦ let Q : ℕ → Type 0 = λ i. p i ≡ true in absurd (true_false (sym (subst Q e a) ∙ f))
        | inr other ↦ rw f (two_kept p (first + 1) n j k (omega arith) order (omega arith) a b)
      ]
    ]

not_both : (holds many : Bool) → (holds && many) ≡ false → many ≡ true → holds ≡ false
not_both true many e t = absurd (true_false (sym t ∙ e))
not_both false many e t = refl

-- where one way fares are alone, two parts of a unit have none
pub alone_in_unit : (tariff : Tariff) (parts : List Part) → mixed tariff parts ≡ None → (j k : ℕ) → 1 ≤ j → j < k → k ≤ length parts → 1 ≤ unit_of parts k → unit_of parts k ≡ unit_of parts j → (is_ow tariff parts j ≡ false) × (is_ow tariff parts k ≡ false)
unfolding mixed own
alone_in_unit tariff parts e j k low order high unit same =
    let most : unit_of parts k ≤ greatest_unit parts (places parts) = unit_in parts 1 (length parts + 1 - 1) k (omega arith) (omega arith) in
    let fails : is_mixed tariff parts (unit_of parts k) ≡ false = find_none (is_mixed tariff parts) 1 (greatest_unit parts (places parts) + 1) e (unit_of parts k) unit (omega arith) in
    let own_j : is_own parts (unit_of parts k) j ≡ true = eq-eqb (unit_of parts j) (unit_of parts k) (sym same) in
    let own_k : is_own parts (unit_of parts k) k ≡ true = eq-eqb (unit_of parts k) (unit_of parts k) refl in
    let two : 1 < length (filter (is_own parts (unit_of parts k)) (places parts)) = two_kept (is_own parts (unit_of parts k)) 1 (length parts + 1 - 1) j k low order (omega arith) own_j own_k in
    let none : holds_ow tariff parts (filter (is_own parts (unit_of parts k)) (places parts)) ≡ false = not_both _ _ fails (lt-ltb 1 _ two) in (
      any_kept_none (is_own parts (unit_of parts k)) (is_ow tariff parts) 1 (length parts + 1) none j low (omega arith) own_j,
      any_kept_none (is_own parts (unit_of parts k)) (is_ow tariff parts) 1 (length parts + 1) none k (omega arith) (omega arith) own_k,
    )

any_none : (test : ℕ → Bool) (first n : ℕ) → ((k : ℕ) → first ≤ k → k < first + n → test k ≡ false) → list_any test (range_with_len first n) ≡ false
any_none test first zero h = refl
any_none test first (suc n) h = rw (h first (omega arith) (omega arith)) (any_none test (first + 1) n (λ k low high. h k (omega arith) (omega arith)))

same_or_not : (b x y : Bool) → (b ≡ true → (x ≡ false) × (y ≡ false)) → (b && (x || y)) ≡ false
same_or_not false x y h = refl
same_or_not true x y h = rw ((h refl).0, (h refl).1) refl

-- so no part of such a list shares its unit with one before it where either is one way
pub unmixed : (tariff : Tariff) (parts : List Part) → mixed tariff parts ≡ None → (k : ℕ) → k ≤ length parts → 1 ≤ unit_of parts k → mixes tariff parts k ≡ false
unmixed tariff parts e k high unit =
    any_none (is_mixed_with tariff parts k) 1 (k - 1)
    (λ j low below. same_or_not (is_same_unit parts k j) (is_ow tariff parts j) (is_ow tariff parts k)
    (λ t. alone_in_unit tariff parts e j k low (omega arith) high unit (eqb-true (unit_of parts k) (unit_of parts j) t)))
