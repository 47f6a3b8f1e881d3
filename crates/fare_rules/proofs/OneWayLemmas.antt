-- The unit of a one way fare in a lawful construction costs the price of that fare over its span.
use Rattle.std.proofs.Common.{◌≡◌, ℕ, ◌+◌, ◌≤◌, Bool, true, false, ◌||◌, List, [], ◌∷◌, length, refl, ap, sym, subst, inl, inr, arith}
use Rattle.std.specs.Prelude.{Some}
use Rattle.std.specs.List.{list_any}
use Rattle.std.proofs.lemmas.Bool.{eq-eqb, eqb-false, ltb-false}
use Rattle.fare_trip.specs.Itinerary.{Itinerary}
use Rattle.fare_tariff.specs.Tariff.{Tariff}
use Rattle.fare_rules.specs.declared.amount.Amount.{Amount}
use Rattle.fare_rules.specs.declared.part.Part.{Part}
use Rattle.fare_rules.specs.ComponentAmount.{component_amount}
use Rattle.fare_rules.specs.Construction.{start_of, end_of, part_at, places, unit_of, own, is_own, greatest_unit, misnumbered, is_misnumbered}
use Rattle.fare_rules.specs.Direction.{is_back_in}
use Rattle.fare_rules.specs.Shape.{is_hr, is_ow, holds_ow, mixed, is_mixed}
use Rattle.fare_rules.specs.UnitPrice.{one_way_price, unit_price, unit_sheet, unit_kind, unit_minimum, unit_sum, part_amount}
use Rattle.fare_rules.specs.Best.{IsLawful}
use Rattle.fare_rules.proofs.NumberLemmas.{find_none}
use Rattle.fare_rules.proofs.CoverLemmas.{both_false}
use Rattle.fare_rules.proofs.LawfulLemmas.{IsKept, kept}
use Rattle.fare_rules.proofs.AmountLemmas.{amount_of_lawful}
use Rattle.fare_rules.proofs.MemberLemmas.{Member, member_filter, member_numbers}

either_way : (b : Bool) → (b || true) ≡ true
either_way true = refl
either_way false = refl

-- a test that a member passes holds of some member
any_member : (test : ℕ → Bool) (k : ℕ) (xs : List ℕ) → Member k xs → test k ≡ true → list_any test xs ≡ true
any_member test k [] h t = absurd h
any_member test k (x ∷ xs) (inl e) t = let here : test x ≡ true = subst (λ z. test z ≡ true) e t in rw here
any_member test k (x ∷ xs) (inr h) t = rw (any_member test k xs h t) (either_way (test x))

-- a member of a list of one is all of it
lone_member : (k : ℕ) (xs : List ℕ) → Member k xs → length xs ≤ 1 → xs ≡ k ∷ []
lone_member k [] h few = absurd h
lone_member k (x ∷ []) (inl e) few = ap (λ z. z ∷ []) (sym e)
lone_member k (x ∷ []) (inr h) few = absurd h
lone_member k (x ∷ y ∷ ys) h few = absurd (omega arith)

-- no unit number is above the greatest
unit_below : (parts : List Part) (k : ℕ) (xs : List ℕ) → Member k xs → unit_of parts k ≤ greatest_unit parts xs
unit_below parts k [] h = absurd h
unit_below parts k (x ∷ xs) (inl e) = let same : unit_of parts k ≡ unit_of parts x = ap (unit_of parts) e in omega arith
unit_below parts k (x ∷ xs) (inr h) = omega (arith, unit_below parts k xs h)

module _ (tariff : Tariff) (trip : Itinerary) (parts : List Part) (k : ℕ) (way : is_ow tariff parts k ≡ true) where
  -- the sheet of a part alone, whose fare is one way
  sheet_of_one_way : (found : Amount) → component_amount tariff trip (start_of trip parts k) (end_of parts k)
      (part_at parts k).fare (is_back_in tariff trip parts (k ∷ []) k) ≡ Some found
      → one_way_price tariff trip (start_of trip parts k) (end_of parts k) (part_at parts k).fare
      ≡ Some (unit_sheet tariff trip parts (k ∷ [])).price
  unfolding one_way_price unit_sheet unit_kind unit_minimum unit_sum part_amount is_back_in is_hr
  sheet_of_one_way found e =
      let out : component_amount tariff trip (start_of trip parts k) (end_of parts k) (part_at parts k).fare false ≡ Some found = rw way at e in
      let alone : 0 + found.amount ≡ found.amount = omega arith in
      rw (way, out, alone)

  module _ (kept : IsKept tariff trip parts) (low : 1 ≤ k) (high : k ≤ length parts) where
    one_of_places : Member k (places parts)
    one_of_places = member_numbers 1 (length parts + 1) k low (omega arith)

    one_of_own : Member k (own parts (unit_of parts k))
    unfolding own
    one_of_own = member_filter (is_own parts (unit_of parts k)) k (places parts) (eq-eqb (unit_of parts k) (unit_of parts k) refl) one_of_places

    unit_from_one : 1 ≤ unit_of parts k
    unfolding misnumbered
    unit_from_one =
        let fails = find_none (is_misnumbered parts) 1 (length parts + 1) kept.numbering k low (omega arith) in
        let zero_not : unit_of parts k ≡ 0 → ⊥ = eqb-false (unit_of parts k) 0 (both_false _ _ fails).0 in
        omega arith

    unit_is_alone : own parts (unit_of parts k) ≡ k ∷ []
    unfolding mixed
    unit_is_alone =
        let fails = find_none (is_mixed tariff parts) 1 (greatest_unit parts (places parts) + 1) kept.alone (unit_of parts k) unit_from_one (omega (arith, unit_below parts k (places parts) one_of_places)) in
        let holds : holds_ow tariff parts (own parts (unit_of parts k)) ≡ true = any_member (is_ow tariff parts) k (own parts (unit_of parts k)) one_of_own way in
        let few : length (own parts (unit_of parts k)) ≤ 1 = ltb-false 1 (length (own parts (unit_of parts k))) (rw holds at fails) in
        lone_member k (own parts (unit_of parts k)) one_of_own few

-- the unit of a one way fare costs the price of that fare
pub one_way_unit : (tariff : Tariff) (trip : Itinerary) (parts : List Part) (price k : ℕ)
    → IsLawful tariff trip parts price → 1 ≤ k → k ≤ length parts → is_ow tariff parts k ≡ true
    → one_way_price tariff trip (start_of trip parts k) (end_of parts k) (part_at parts k).fare
    ≡ Some (unit_price tariff trip parts (unit_of parts k))
unfolding one_way_price unit_sheet
one_way_unit tariff trip parts price k lawful low high way =
    let found = amount_of_lawful tariff trip parts price k lawful low high in
    let alone : own parts (unit_of parts k) ≡ k ∷ [] = unit_is_alone tariff trip parts k way (kept tariff trip parts price lawful) low high in
    let amount = rw alone at found.1 in
    rw alone (sheet_of_one_way tariff trip parts k way found.0 amount)
