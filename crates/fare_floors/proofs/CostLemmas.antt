-- What the parts of a lawful construction cost at least: each unit costs no less than its parts do.
use Rattle.std.proofs.Common.{◌≡◌, ℕ, ◌+◌, ◌-◌, ◌<◌, ◌≤◌, Bool, true, false, List, [], ◌∷◌, length, refl, ap, sym, subst, ◌∙◌, inl, inr, arith}
use Rattle.std.specs.Prelude.{Option, Some, None, option_map, sum_by}
use Rattle.std.specs.List.{list_any}
use Rattle.std.proofs.lemmas.Bool.{cases_Bool, or_cases, eqb-true, eqb-false, ltb-false}
use Rattle.std.proofs.lemmas.List.Sums.{sum_by-cons}
use Rattle.fare_codes.specs.declared.kind.Kind.{Kind}
use Rattle.fare_codes.specs.declared.kind.Kind.TheVariants.{OW, HR}
use Rattle.fare_codes.specs.Same.{same_kind}
use Rattle.fare_trip.specs.Itinerary.{Itinerary}
use Rattle.fare_tariff.specs.Record.{FareRecord}
use Rattle.fare_tariff.specs.Tariff.{Tariff}
use Rattle.fare_tariff.specs.Lookup.{fare_at}
use Rattle.fare_rules.specs.declared.amount.Amount.{Amount}
use Rattle.fare_rules.specs.declared.part.Part.{Part}
use Rattle.fare_rules.specs.Construction.{start_of, end_of, part_at, places, own, is_own, unit_of, greatest_unit, misnumbered, is_misnumbered}
use Rattle.fare_rules.specs.ComponentAmount.{component_amount, is_half_round_trip}
use Rattle.fare_rules.specs.Shape.{is_ow, holds_ow, is_mixed, mixed}
use Rattle.fare_rules.specs.Direction.{is_back, is_back_in}
use Rattle.fare_rules.specs.UnitPrice.{one_way_price, unit_price, unit_sheet, unit_sum, unit_minimum, unit_kind, part_amount, part_cost, at_least}
use Rattle.fare_rules.specs.Best.{IsLawful}
use Rattle.fare_rules.proofs.NumberLemmas.{find_none, any_kept_none}
use Rattle.fare_rules.proofs.CoverLemmas.{both_false}
use Rattle.fare_rules.proofs.LawfulLemmas.{IsKept, kept}
use Rattle.fare_rules.proofs.AmountLemmas.{fare_is_filed, amount_of_lawful}
use Rattle.fare_rules.proofs.OneWayLemmas.{one_way_unit}
use Rattle.fare_rules.proofs.MemberLemmas.{Member}
use Rattle.fare_bounds.specs.Covers.{hundredths_of}
use Rattle.fare_floors.specs.Costs.{or_nothing, fare_least, part_least, unit_least}
use Rattle.fare_legs.specs.Costs.{IsUpTo}
use Rattle.fare_legs.proofs.ReachLemmas.{lesser_first, lesser_second}
use Rattle.fare_floors.proofs.SumLemmas.{sum_up_members, kept_member}

true_false : true ≡ false → ⊥
true_false e = cc

none_some : {A : Type 0} (x : A) → None ≡ Some x → ⊥
none_some x e = cc

-- a fare is one way or a half round trip
pub not_half : (kind : Kind) → same_kind kind OW ≡ true → same_kind kind HR ≡ false
not_half OW e = refl
not_half HR e = absurd (true_false (sym e))

pub half : (kind : Kind) → same_kind kind OW ≡ false → same_kind kind HR ≡ true
half OW e = absurd (true_false e)
half HR e = refl

pub lone : (test : ℕ → Bool) (xs : List ℕ) → list_any test xs ≡ true → length xs ≤ 1 → (k : ℕ) × (xs ≡ k ∷ []) × (test k ≡ true)
lone test [] e h = absurd (true_false (sym e))
lone test (k ∷ []) e h = elim (or_cases (test k) false e) [ inl t ↦ (k, refl, t) | inr f ↦ absurd (true_false (sym f)) ]
lone test (k ∷ j ∷ rest) e h = absurd (omega arith)

pub at_least_up : (sum : ℕ) (minimum : Option ℕ) → sum ≤ at_least sum minimum
at_least_up sum None = omega arith
at_least_up sum (Some minimum) = omega arith

module _ (tariff : Tariff) (trip : Itinerary) where
  -- a half round trip costs at least the lesser of its amounts
  pub half_least : (a b number : ℕ) (back : Bool) (fare : FareRecord) (amount : Amount) → fare_at tariff number ≡ Some fare → is_half_round_trip fare ≡ true → component_amount tariff trip a b number back ≡ Some amount → IsUpTo amount.amount (fare_least tariff trip a b number)
  half_least a b number false fare amount f h e =
      rw (f, h) (lesser_first (option_map hundredths_of (component_amount tariff trip a b number false)) (option_map hundredths_of (component_amount tariff trip a b number true)) amount.amount (ap (option_map hundredths_of) e))
  half_least a b number true fare amount f h e =
      rw (f, h) (lesser_second (option_map hundredths_of (component_amount tariff trip a b number false)) (option_map hundredths_of (component_amount tariff trip a b number true)) amount.amount (ap (option_map hundredths_of) e))

  -- a one way fare costs its price as a unit
  pub single_least : (a b number price : ℕ) (fare : FareRecord) → fare_at tariff number ≡ Some fare → is_half_round_trip fare ≡ false → one_way_price tariff trip a b number ≡ Some price → fare_least tariff trip a b number ≡ Some price
  single_least a b number price fare f h e = rw (f, h, e) refl

module _ (tariff : Tariff) (trip : Itinerary) (parts : List Part) (price : ℕ) (lawful : IsLawful tariff trip parts price) where
  pub holds : IsKept tariff trip parts
  holds = kept tariff trip parts price lawful

  pub one_way_least : (k : ℕ) → 1 ≤ k → k ≤ length parts → is_ow tariff parts k ≡ true → fare_least tariff trip (start_of trip parts k) (end_of parts k) (part_at parts k).fare ≡ Some (unit_price tariff trip parts (unit_of parts k))
  one_way_least k low high way =
      let filed = fare_is_filed tariff trip parts holds k low high in
      let kind : same_kind filed.0.kind OW ≡ true = rw filed.1 at way in
      single_least tariff trip (start_of trip parts k) (end_of parts k) (part_at parts k).fare (unit_price tariff trip parts (unit_of parts k)) filed.0 filed.1 (not_half filed.0.kind kind) (one_way_unit tariff trip parts price k lawful low high way)

  pub half_way_least : (k : ℕ) → 1 ≤ k → k ≤ length parts → is_ow tariff parts k ≡ false → (amount : Amount) × (component_amount tariff trip (start_of trip parts k) (end_of parts k) (part_at parts k).fare (is_back tariff trip parts k) ≡ Some amount) × IsUpTo amount.amount (fare_least tariff trip (start_of trip parts k) (end_of parts k) (part_at parts k).fare)
  half_way_least k low high way =
      let filed = fare_is_filed tariff trip parts holds k low high in
      let kind : same_kind filed.0.kind OW ≡ false = rw filed.1 at way in
      let found = amount_of_lawful tariff trip parts price k lawful low high in
      (found.0, found.1, half_least tariff trip (start_of trip parts k) (end_of parts k) (part_at parts k).fare (is_back tariff trip parts k) filed.0 found.0 filed.1 (half filed.0.kind kind) found.1)

  -- each part costs something at least
  pub part_has_least : (k : ℕ) → 1 ≤ k → k ≤ length parts → (least : ℕ) × (fare_least tariff trip (start_of trip parts k) (end_of parts k) (part_at parts k).fare ≡ Some least)
  part_has_least k low high =
      elim (cases_Bool (is_ow tariff parts k)) [
        | inl t ↦ (unit_price tariff trip parts (unit_of parts k), one_way_least k low high t)
        | inr f ↦ let found = half_way_least k low high f in (found.2.0, found.2.1)
      ]

  pub member_place : (unit k : ℕ) → Member k (own parts unit) → (1 ≤ k) × (k ≤ length parts) × (unit_of parts k ≡ unit)
  unfolding own
  member_place unit k m =
      let h = kept_member (is_own parts unit) 1 (length parts + 1 - 1) k m in
      let high : k < 1 + (length parts + 1 - 1) = h.1 in
      (h.0, omega arith, eqb-true (unit_of parts k) unit h.2)

  alone_least : (unit : ℕ) → 1 ≤ unit → unit ≤ greatest_unit parts (places parts) → holds_ow tariff parts (own parts unit) ≡ true → unit_least tariff trip parts unit ≡ unit_price tariff trip parts unit
  unfolding mixed
  alone_least unit low high way =
      let fails = find_none (is_mixed tariff parts) 1 (greatest_unit parts (places parts) + 1) holds.alone unit low (omega arith) in
      let few : length (own parts unit) ≤ 1 = ltb-false 1 (length (own parts unit)) (rw way at fails) in
      let one = lone (is_ow tariff parts) (own parts unit) way few in
      let member : Member one.0 (own parts unit) = subst (Member one.0) (sym one.1) (inl refl) in
      let place = member_place unit one.0 member in
      let least : part_least tariff trip parts one.0 ≡ unit_price tariff trip parts (unit_of parts one.0) = ap or_nothing (one_way_least one.0 place.0 place.1 one.2) in
      let sum : sum_by (part_least tariff trip parts) (own parts unit) ≡ part_least tariff trip parts one.0 + sum_by (part_least tariff trip parts) [] = ap (sum_by (part_least tariff trip parts)) one.1 ∙ sum_by-cons (part_least tariff trip parts) one.0 [] in
      let whole : part_least tariff trip parts one.0 + sum_by (part_least tariff trip parts) [] ≡ part_least tariff trip parts one.0 = omega arith in
      sum ∙ whole ∙ least ∙ ap (unit_price tariff trip parts) place.2

  pub half_part : (unit k : ℕ) → holds_ow tariff parts (own parts unit) ≡ false → Member k (own parts unit) → part_least tariff trip parts k ≤ part_cost tariff trip parts (own parts unit) k
  unfolding own part_amount
  half_part unit k none m =
      let place = member_place unit k m in
      let high : k ≤ length parts = place.1 in
      let one : is_ow tariff parts k ≡ false = any_kept_none (is_own parts unit) (is_ow tariff parts) 1 (length parts + 1) none k place.0 (omega arith) (own_place k m) in
      let found = half_way_least k place.0 place.1 one in
      let P : ℕ → Type 0 = λ u. component_amount tariff trip (start_of trip parts k) (end_of parts k) (part_at parts k).fare (is_back_in tariff trip parts (own parts u) k) ≡ Some found.0 in
      let amount : component_amount tariff trip (start_of trip parts k) (end_of parts k) (part_at parts k).fare (is_back_in tariff trip parts (own parts unit) k) ≡ Some found.0 = subst P place.2 found.1 in
      let least : found.2.0 ≤ found.0.amount = found.2.2 in
      rw (amount, found.2.1) least
    where
      own_place : (j : ℕ) → Member j (own parts unit) → is_own parts unit j ≡ true
      own_place j n = (kept_member (is_own parts unit) 1 (length parts + 1 - 1) j n).2

  half_unit : (unit : ℕ) → holds_ow tariff parts (own parts unit) ≡ false → unit_least tariff trip parts unit ≤ unit_price tariff trip parts unit
  unfolding unit_sheet unit_sum
  half_unit unit none =
      let sum : sum_by (part_least tariff trip parts) (own parts unit) ≤ sum_by (part_cost tariff trip parts (own parts unit)) (own parts unit) = sum_up_members (part_least tariff trip parts) (part_cost tariff trip parts (own parts unit)) (own parts unit) (λ k m. half_part unit k none m) in
      let up : sum_by (part_cost tariff trip parts (own parts unit)) (own parts unit) ≤ at_least (sum_by (part_cost tariff trip parts (own parts unit)) (own parts unit)) (unit_minimum tariff trip parts (own parts unit) (unit_kind tariff trip parts (own parts unit))) = at_least_up (sum_by (part_cost tariff trip parts (own parts unit)) (own parts unit)) (unit_minimum tariff trip parts (own parts unit) (unit_kind tariff trip parts (own parts unit))) in
      omega arith

  -- a unit costs no less than its parts do at least
  pub unit_costs_least : (unit : ℕ) → 1 ≤ unit → unit ≤ greatest_unit parts (places parts) → unit_least tariff trip parts unit ≤ unit_price tariff trip parts unit
  unit_costs_least unit low high =
      elim (cases_Bool (holds_ow tariff parts (own parts unit))) [
        | inl t ↦ let same : unit_least tariff trip parts unit ≡ unit_price tariff trip parts unit = alone_least unit low high t in omega arith
        | inr f ↦ half_unit unit f
      ]

  -- the number of a part's unit is at least 1
  pub unit_from_one : (k : ℕ) → 1 ≤ k → k ≤ length parts → 1 ≤ unit_of parts k
  unfolding misnumbered
  unit_from_one k low high =
      let fails = find_none (is_misnumbered parts) 1 (length parts + 1) holds.numbering k low (omega arith) in
      let zero_not : unit_of parts k ≡ 0 → ⊥ = eqb-false (unit_of parts k) 0 (both_false _ _ fails).0 in
      omega arith
