-- Units don't cross, and are numbered in the order in which they begin.
use Rattle.std.proofs.Common.{◌≡◌, ℕ, zero, suc, ◌+◌, ◌-◌, ◌<◌, ◌≤◌, Bool, true, false, not, eqb, max, List, [], ◌∷◌, ◌++◌, length, refl, ap, sym, subst, ◌∙◌, inl, inr, arith}
use Rattle.std.specs.Prelude.{None}
use Rattle.std.specs.List.{range_with_len, list_any}
use Rattle.std.proofs.lemmas.Bool.{cases_Bool, cases_lt, eq-eqb, eqb-true}
use Rattle.fare_rules.specs.declared.part.Part.{Part}
use Rattle.fare_rules.specs.Numbers.{numbers}
use Rattle.fare_rules.specs.Construction.{greatest_unit, unit_of, misnumbered}
use Rattle.fare_rules.specs.Shape.{is_same_unit, is_begun_before, is_straddled, is_crossed, crossed}
use Rattle.fare_rules.proofs.ExistenceLemmas.{units_numbered}
use Rattle.fare_rules.proofs.MemberLemmas.{member_numbers}
use Rattle.fare_rules.proofs.NumberLemmas.{find_none, range_more}
use Rattle.fare_floors.proofs.ShutLemmas.{any_at, both_true}

true_false : true ≡ false → ⊥
true_false e = cc

not_of : (b : Bool) → b ≡ false → not b ≡ true
not_of b e = rw e refl

greatest_more : (parts : List Part) (xs : List ℕ) (y : ℕ) → greatest_unit parts (xs ++ y ∷ []) ≤ max (greatest_unit parts xs) (unit_of parts y)
greatest_more parts [] y = omega arith
greatest_more parts (x ∷ xs) y =
    let more : greatest_unit parts (xs ++ y ∷ []) ≤ max (greatest_unit parts xs) (unit_of parts y) = greatest_more parts xs y in
    omega arith

module _ (parts : List Part) where
  -- of parts a < b < c < d, a and c of one unit, and b and d of one, all four are of one
  pub not_crossed : crossed parts ≡ None → (a b c d : ℕ) → 1 ≤ a → a < b → b < c → c < d → d ≤ length parts → unit_of parts c ≡ unit_of parts a → unit_of parts d ≡ unit_of parts b → unit_of parts c ≡ unit_of parts b
  unfolding crossed
  not_crossed e a b c d low ab bc cd high one two =
      elim (cases_Bool (eqb (unit_of parts c) (unit_of parts b))) [
        | inl t ↦ same t
        | inr other ↦
            let begun : is_begun_before parts b c ≡ true =
            both_true (not (is_same_unit parts c b)) (list_any (is_same_unit parts c) (numbers 1 b)) (not_of (is_same_unit parts c b) other)
            (any_at (is_same_unit parts c) a (numbers 1 b) (member_numbers 1 b a low ab) (eq-eqb (unit_of parts c) (unit_of parts a) one)) in
            let straddled : is_straddled parts d b ≡ true =
            both_true (is_same_unit parts d b) (list_any (is_begun_before parts b) (numbers (b + 1) d)) (eq-eqb (unit_of parts d) (unit_of parts b) two)
            (any_at (is_begun_before parts b) c (numbers (b + 1) d) (member_numbers (b + 1) d c (omega arith) cd) begun) in
            let crosses : is_crossed parts d ≡ true = any_at (is_straddled parts d) b (numbers 1 d) (member_numbers 1 d b (omega arith) (omega arith)) straddled in
            absurd (true_false (sym crosses ∙ find_none (is_crossed parts) 1 (length parts + 1) e d (omega arith) (omega arith)))
      ]
    where
      same : eqb (unit_of parts c) (unit_of parts b) ≡ true → unit_of parts c ≡ unit_of parts b
      same t = eqb-true (unit_of parts c) (unit_of parts b) t

  -- each unit number up to the greatest of the first n places is that of one of them
  pub begun_by : misnumbered parts ≡ None → (n unit : ℕ) → n ≤ length parts → 1 ≤ unit → unit ≤ greatest_unit parts (range_with_len 1 n) → (a : ℕ) × (1 ≤ a) × (a ≤ n) × (unit_of parts a ≡ unit)
  begun_by e zero unit high low most = absurd (omega arith)
  begun_by e (suc n) unit high low most =
      elim (cases_lt (greatest_unit parts (range_with_len 1 n)) unit) [
        | inl less ↦
            let more : greatest_unit parts (range_with_len 1 n ++ (1 + n) ∷ []) ≤ max (greatest_unit parts (range_with_len 1 n)) (unit_of parts (1 + n)) = greatest_more parts (range_with_len 1 n) (1 + n) in
            let whole : greatest_unit parts (range_with_len 1 (suc n)) ≡ greatest_unit parts (range_with_len 1 n ++ (1 + n) ∷ []) = ap (greatest_unit parts) (range_more 1 n) in
            let same : (1 + n) - 1 ≡ n = omega arith in
            let P : ℕ → Type 0 = λ m. unit_of parts (1 + n) ≤ greatest_unit parts (range_with_len 1 m) + 1 in
            let here : unit_of parts (1 + n) ≤ greatest_unit parts (range_with_len 1 n) + 1 = subst P same (units_numbered parts e (1 + n) (omega arith) (omega arith)).1 in
            (1 + n, omega arith, omega arith, omega arith)
        | inr within ↦
            let more = begun_by e n unit (omega arith) low within in
            let most_a : more.0 ≤ n = more.2 in
            (more.0, more.1, omega arith, more.3)
      ]

  -- so a unit of a lesser number than a part's began before the part
  pub began_before : misnumbered parts ≡ None → (k unit : ℕ) → 1 ≤ k → k ≤ length parts → 1 ≤ unit → unit < unit_of parts k → (a : ℕ) × (1 ≤ a) × (a < k) × (unit_of parts a ≡ unit)
  began_before e k unit low high some less =
      let numbered : unit_of parts k ≤ greatest_unit parts (numbers 1 k) + 1 = (units_numbered parts e k low high).1 in
      let found = begun_by e (k - 1) unit (omega arith) some (omega arith) in
      let most : found.0 ≤ k - 1 = found.2 in
      (found.0, found.1, omega arith, found.3)
