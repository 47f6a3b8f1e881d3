-- The constructions of a trip of one sector are its single parts.
use Rattle.std.proofs.Common.{◌≡◌, ℕ, ◌+◌, ◌<◌, ◌≤◌, Bool, true, false, cond, ◌||◌, eqb, ltb, List, [], ◌∷◌, refl, ap, sym, subst, ◌∙◌, inl, inr, arith}
use Rattle.std.specs.Prelude.{Option, Some, None, Ok, option_map, is_some}
use Rattle.std.proofs.lemmas.Bool.{cases_Bool, ltb-false}
use Rattle.fare_trip.specs.Itinerary.{Itinerary, count}
use Rattle.fare_records.specs.Record.{FareRecord}
use Rattle.fare_tariff.specs.Tariff.{Tariff}
use Rattle.fare_codes.specs.Same.{same_kind}
use Rattle.fare_tariff.specs.Lookup.{fare_at}
use Rattle.fare_codes.specs.declared.kind.Kind.TheVariants.{OW}
use Rattle.fare_rules.specs.declared.amount.Amount.{Amount}
use Rattle.fare_rules.specs.declared.part.Part.{Part}
use Rattle.fare_rules.specs.Backhaul.{backhaul, greatest_reference}
use Rattle.fare_rules.specs.ComponentAmount.{component_amount}
use Rattle.fare_rules.specs.Construction.{uncovered, misnumbered, is_misnumbered, begin_after, unfiled, own, start_of, end_of, part_at}
use Rattle.fare_rules.specs.Shape.{crossed, mixed, unchained, unclosed, is_hr, is_open_jaw, is_one_way, holds_ow}
use Rattle.fare_rules.specs.Direction.{is_back, is_back_in}
use Rattle.fare_rules.specs.UnitRules.{mistimed, misfitted, clashed}
use Rattle.fare_rules.specs.UnitPrice.{price, unit_sheet, unit_kind, unit_sum, unit_minimum, part_amount, hundredths_of}
use Rattle.fare_rules.specs.Lawful.{lawful_price, MeetsTheRules}
use Rattle.fare_rules.specs.Best.{IsLawful}
use Rattle.fare_rules.specs.OneSector.{single_fare, single_part}
use Rattle.fare_rules.proofs.NumberLemmas.{find_none}
use Rattle.fare_rules.proofs.CoverLemmas.{cover, begins_later, both_false}
use Rattle.fare_rules.proofs.LawfulLemmas.{IsKept, kept, unbroken, price_of_lawful}
use Rattle.fare_rules.proofs.RuleLemmas.{price_where_met, met_where_unbroken}
use Rattle.fare_rules.proofs.FirstPartLemmas.{unit_above, not_alone, own_of_first}

false_true : false ≡ true → ⊥
false_true e = cc

one_way_is_there : (found : Option FareRecord) → is_one_way found ≡ true
    → (fare : FareRecord) × (found ≡ Some fare) × (same_kind fare.kind OW ≡ true)
one_way_is_there None e = absurd (false_true e)
one_way_is_there (Some fare) e = (fare, refl, e)

module _ (tariff : Tariff) (trip : Itinerary) (one : count trip ≡ 1) (number : ℕ) (way : is_one_way (fare_at tariff number) ≡ true) where
  single_cover : uncovered trip (single_part number) ≡ None
  unfolding uncovered
  single_cover = rw one

  single_filed : unfiled tariff (single_part number) ≡ None
  unfolding unfiled
  single_filed = let fare = one_way_is_there (fare_at tariff number) way in rw fare.1

  single_alone : mixed tariff (single_part number) ≡ None
  unfolding mixed own
  single_alone = rw way

  single_chain : unchained tariff trip (single_part number) ≡ None
  unfolding unchained own is_hr is_open_jaw
  single_chain = rw way

  single_close : unclosed tariff trip (single_part number) ≡ None
  unfolding unclosed own is_hr is_open_jaw
  single_close = rw way

  single_stay : mistimed tariff trip (single_part number) ≡ None
  unfolding mistimed own is_hr
  single_stay = rw way

  single_out : is_back_in tariff trip (single_part number) (own (single_part number) 1) 1 ≡ false
  unfolding is_back_in own is_hr
  single_out = rw way

  single_amount : is_some (component_amount tariff trip 0 1 number false) ≡ true → (k : ℕ) → k ≡ 1
      → is_some (component_amount tariff trip (start_of trip (single_part number) k) (end_of (single_part number) k)
      (part_at (single_part number) k).fare (is_back tariff trip (single_part number) k)) ≡ true
  single_amount some k e = subst (λ j. is_some (component_amount tariff trip (start_of trip (single_part number) j) (end_of (single_part number) j) (part_at (single_part number) j).fare (is_back tariff trip (single_part number) j)) ≡ true) (sym e) (rw single_out some)

  single_meets : is_some (component_amount tariff trip 0 1 number false) ≡ true
      → MeetsTheRules tariff trip (single_part number)
  unfolding misnumbered crossed misfitted clashed own
  single_meets some = record {
    cover = single_cover;
    numbering = refl;
    filed = single_filed;
    crossing = refl;
    alone = single_alone;
    chain = single_chain;
    close = single_close;
    stay = single_stay;
    combine = refl;
    ends = refl;
    amounts = λ k low high. single_amount some k (omega arith);
  }

  single_cost : price tariff trip (single_part number) ≡ hundredths_of (component_amount tariff trip 0 1 number false)
  unfolding price unit_sheet unit_kind unit_minimum unit_sum part_amount own is_back_in is_hr backhaul
      greatest_reference
  single_cost =
      let fare = one_way_is_there (fare_at tariff number) way in
      rw (way, fare.1) (omega arith)

none_some : (x : ℕ) → None ≡ Some x → ⊥
none_some x e = cc

some_same : (x y : ℕ) → Some x ≡ Some y → x ≡ y
some_same x y e = cc

-- what a single fare is made of
single_of : (way : Bool) (found : Option Amount) (price : ℕ)
    → cond way (option_map (λ a. a.amount) found) None ≡ Some price
    → (way ≡ true) × (is_some found ≡ true) × (hundredths_of found ≡ price)
single_of true None price e = absurd (none_some price e)
single_of true (Some a) price e = (refl, refl, some_same a.amount price e)
single_of false found price e = absurd (none_some price e)

single_from : (way : Bool) (found : Option Amount) (price : ℕ) → way ≡ true → is_some found ≡ true
    → hundredths_of found ≡ price → cond way (option_map (λ a. a.amount) found) None ≡ Some price
single_from way None price w e h = absurd (false_true e)
single_from way (Some a) price w e h = rw w (ap Some h)

-- a fare that may be used for one sector makes a lawful construction of its amount
pub lawful_single : (tariff : Tariff) (trip : Itinerary) → count trip ≡ 1 → (number price : ℕ)
    → single_fare tariff trip number ≡ Some price → IsLawful tariff trip (single_part number) price
unfolding single_fare
lawful_single tariff trip one number cost e =
    let parts = single_of (is_one_way (fare_at tariff number)) (component_amount tariff trip 0 1 number false) cost e in
    let priced = price_where_met tariff trip (single_part number) (single_meets tariff trip one number parts.0 parts.1) in
    let same : price tariff trip (single_part number) ≡ cost = single_cost tariff trip one number parts.0 ∙ parts.2 in
    subst (λ p. lawful_price tariff trip (single_part number) ≡ Ok p) same priced

or_false : (b : Bool) → (b || false) ≡ true → b ≡ true
or_false true e = refl
or_false false e = e

-- a unit of one part is one way
lone_is_one_way : (tariff : Tariff) (trip : Itinerary) (part : Part) → IsKept tariff trip (part ∷ [])
    → is_one_way (fare_at tariff part.fare) ≡ true
unfolding is_hr
lone_is_one_way tariff trip part kept =
    let alone : own (part ∷ []) part.unit ≡ 1 ∷ [] = own_of_first part [] in
    let found = cases_Bool (holds_ow tariff (part ∷ []) (own (part ∷ []) part.unit)) in
    elim found [
      | inl t ↦ or_false (is_one_way (fare_at tariff part.fare)) (rw alone at t)
      | inr f ↦ absurd (not_alone tariff trip part [] kept (rw f) alone)
    ]

-- and its number is 1
lone_unit : (tariff : Tariff) (trip : Itinerary) (part : Part) → IsKept tariff trip (part ∷ []) → part.unit ≡ 1
unfolding misnumbered
lone_unit tariff trip part kept =
    let above : 1 ≤ part.unit = unit_above tariff trip part [] kept in
    let fails = find_none (is_misnumbered (part ∷ [])) 1 2 kept.numbering 1 (omega arith) (omega arith) in
    let within : part.unit ≤ 0 + 1 = ltb-false (0 + 1) part.unit (both_false (eqb part.unit 0) (ltb (0 + 1) part.unit) fails).1 in
    omega arith

-- a lawful construction of one sector is a single part
single_parts : (tariff : Tariff) (trip : Itinerary) → count trip ≡ 1 → (parts : List Part) → IsKept tariff trip parts
    → (number : ℕ) × (parts ≡ single_part number) × (is_one_way (fare_at tariff number) ≡ true)
single_parts tariff trip one [] kept =
    let last : 0 ≡ count trip = (cover trip [] kept.cover).last in
    absurd (omega arith)
single_parts tariff trip one (part ∷ []) kept =
    let covers = cover trip (part ∷ []) kept.cover in
    let above : 0 < part.end = covers.above 1 (omega arith) (omega arith) in
    let within : part.end ≤ count trip = covers.within 1 (omega arith) (omega arith) in
    let unit : part.unit ≡ 1 = lone_unit tariff trip part kept in
    let end : part.end ≡ 1 = omega arith in
    (part.fare, λ i. record { end = end i; unit = unit i; fare = part.fare } ∷ [], lone_is_one_way tariff trip part kept)
single_parts tariff trip one (part ∷ next ∷ rest) kept =
    let covers = cover trip (part ∷ next ∷ rest) kept.cover in
    let first : 0 < part.end = covers.above 1 (omega arith) (omega arith) in
    let second : begin_after trip part.end < next.end = covers.above 2 (omega arith) (omega arith) in
    let within : next.end ≤ count trip = covers.within 2 (omega arith) (omega arith) in
    let later : part.end ≤ begin_after trip part.end = begins_later trip part.end in
    absurd (omega arith)

-- a lawful construction of one sector is a fare that may be used, at its amount
pub single_lawful : (tariff : Tariff) (trip : Itinerary) → count trip ≡ 1 → (parts : List Part) (cost : ℕ)
    → IsLawful tariff trip parts cost → (number : ℕ) × (parts ≡ single_part number)
    × (single_fare tariff trip number ≡ Some cost)
unfolding single_fare
single_lawful tariff trip one parts cost lawful =
    let shape = single_parts tariff trip one parts (kept tariff trip parts cost lawful) in
    let number = shape.0 in
    let here : IsLawful tariff trip (single_part number) cost = subst (λ ps. IsLawful tariff trip ps cost) shape.1 lawful in
    let meets = met_where_unbroken tariff trip (single_part number) (unbroken tariff trip (single_part number) cost here) in
    let amount = meets.amounts 1 (omega arith) (omega arith) in
    let some : is_some (component_amount tariff trip 0 1 number false) ≡ true = rw (single_out tariff trip one number shape.2) at amount in
    let same : hundredths_of (component_amount tariff trip 0 1 number false) ≡ cost = sym (single_cost tariff trip one number shape.2) ∙ price_of_lawful tariff trip (single_part number) cost here in
    (number, shape.1, single_from (is_one_way (fare_at tariff number)) (component_amount tariff trip 0 1 number false) cost shape.2 some same)
