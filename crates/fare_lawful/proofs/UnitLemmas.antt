-- Units that are numbered in order each have a part, and parts that cover a trip go on within it.
use Rattle.std.proofs.Common.{◌≡◌, ℕ, zero, suc, ◌+◌, ◌-◌, ◌<◌, ◌≤◌, Bool, true, false, max, List, [], ◌∷◌, ◌++◌, length, get_or, filter, None, refl, ap, subst, sym, ◌∙◌, inl, inr, arith}
use Rattle.std.specs.List.{list_any}
use Rattle.std.proofs.lemmas.Bool.{cases_lt, ltb-false, eq-eqb}
use Rattle.std.proofs.lemmas.List.{get_or_past}
use Rattle.fare_trip.specs.Itinerary.{Itinerary, count}
use Rattle.fare_tariff.specs.Tariff.{Tariff}
use Rattle.fare_rules.specs.declared.part.Part.{Part}
use Rattle.fare_rules.specs.Numbers.{numbers}
use Rattle.fare_rules.specs.Construction.{no_part, unit_of, greatest_unit, places, is_own, own, misnumbered, is_misnumbered, uncovered}
use Rattle.fare_rules.specs.Lawful.{first_broken}
use Rattle.fare_rules.proofs.NumberLemmas.{numbers_more, find_none, any_kept_none}
use Rattle.fare_rules.proofs.CoverLemmas.{IsCover, cover, both_false}
use Rattle.fare_rules.proofs.LawfulLemmas.{kept_from_unbroken}
use Rattle.fare_lawful.specs.Advance.{Advances}

-- the greatest unit of some places and others is that of the ones or of the others
pub greatest_append : (parts : List Part) (xs ys : List ℕ) → greatest_unit parts (xs ++ ys) ≡ max (greatest_unit parts xs) (greatest_unit parts ys)
greatest_append parts [] ys = omega arith
greatest_append parts (x ∷ xs) ys = rw (greatest_append parts xs ys) (omega arith)

-- among places up to one, each unit number from 1 to the greatest has a part
found_up_to : (parts : List Part) → misnumbered parts ≡ None → (n unit : ℕ) → n ≤ length parts → 1 ≤ unit → unit ≤ greatest_unit parts (numbers 1 (n + 1)) → (k : ℕ) × (1 ≤ k) × (k ≤ n) × (unit_of parts k ≡ unit)
unfolding misnumbered
found_up_to parts ok zero unit within low high = absurd (omega arith)
found_up_to parts ok (suc n) unit within low high =
    let fails : is_misnumbered parts (n + 1) ≡ false = find_none (is_misnumbered parts) 1 (length parts + 1) ok (n + 1) (omega arith) (omega arith) in
    let most : unit_of parts (n + 1) ≤ greatest_unit parts (numbers 1 (n + 1)) + 1 = ltb-false _ _ (both_false _ _ fails).1 in
    let e : suc n + 1 ≡ n + 1 + 1 = omega arith in
    let split : greatest_unit parts (numbers 1 (n + 1 + 1)) ≡ max (greatest_unit parts (numbers 1 (n + 1))) (max (unit_of parts (n + 1)) 0) =
    ap (greatest_unit parts) (numbers_more 1 (n + 1) (omega arith)) ∙ greatest_append parts (numbers 1 (n + 1)) ((n + 1) ∷ []) in
    let P : ℕ → Type 0 = λ m. unit ≤ greatest_unit parts (numbers 1 m) in
    let top : unit ≤ greatest_unit parts (numbers 1 (n + 1 + 1)) = subst P e high in
    elim (cases_lt (greatest_unit parts (numbers 1 (n + 1))) unit) [
      | inl above ↦ (n + 1, omega arith, omega arith, omega arith)
      | inr below ↦ let f = found_up_to parts ok n unit (omega arith) low below in (f.0, f.1, omega arith, f.3)
    ]

true_false : true ≡ false → ⊥
true_false e = cc

kept_some : (p : ℕ → Bool) (first past k : ℕ) (xs : List ℕ) → xs ≡ filter p (numbers first past) → first ≤ k → k < past → p k ≡ true → 1 ≤ length xs
kept_some p first past k [] e low high passes =
    let none : list_any (λ (j : ℕ). true) (filter p (numbers first past)) ≡ false = ap (list_any (λ (j : ℕ). true)) (sym e) in
    absurd (true_false (any_kept_none p (λ (j : ℕ). true) first past none k low high passes))
kept_some p first past k (x ∷ xs) e low high passes = omega arith

-- each unit number from 1 to the greatest has a part
pub unit_has_parts : (parts : List Part) (unit : ℕ) → misnumbered parts ≡ None → 1 ≤ unit → unit ≤ greatest_unit parts (places parts) → 1 ≤ length (own parts unit)
unfolding own
unit_has_parts parts unit ok low high =
    let f = found_up_to parts ok (length parts) unit (omega arith) low high in
    kept_some (is_own parts unit) 1 (length parts + 1) f.0 (filter (is_own parts unit) (places parts)) refl f.1 (omega arith) (eq-eqb (unit_of parts f.0) unit f.3)

-- parts that cover a trip go on within it
cover_ends : (trip : Itinerary) (parts : List Part) → IsCover trip parts → (i : ℕ) → (get_or parts i no_part).end ≤ count trip
cover_ends trip parts c i =
    elim (cases_lt i (length parts)) [
      | inl l ↦
          let e : i + 1 - 1 ≡ i = omega arith in
          let Q : ℕ → Type 0 = λ n. (get_or parts n no_part).end ≤ count trip in
          subst Q e (c.within (i + 1) (omega arith) (omega arith))
      | inr g ↦ let P : Part → Type 0 = λ p. p.end ≤ count trip in subst P (sym (get_or_past parts i no_part g)) (omega arith)
    ]

pub advances_of_cover : (trip : Itinerary) (parts : List Part) → uncovered trip parts ≡ None → Advances trip parts
advances_of_cover trip parts e =
    let c = cover trip parts e in
    record { ends = λ k. cover_ends trip parts c (k - 1); rises = λ k low high. c.above k low high }

-- and so do those that break no rule, whose units are numbered in order
pub advances_of_unbroken : (tariff : Tariff) (trip : Itinerary) (parts : List Part) → first_broken tariff trip parts ≡ None → Advances trip parts
advances_of_unbroken tariff trip parts e = advances_of_cover trip parts (kept_from_unbroken tariff trip parts e).cover

pub numbered_of_unbroken : (tariff : Tariff) (trip : Itinerary) (parts : List Part) → first_broken tariff trip parts ≡ None → misnumbered parts ≡ None
numbered_of_unbroken tariff trip parts e = (kept_from_unbroken tariff trip parts e).numbering
