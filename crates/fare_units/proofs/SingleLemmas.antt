-- The price of a unit that is one part of a one way fare is that of its fare over its span.
use Rattle.std.proofs.Common.{◌≡◌, refl, ℕ, ◌+◌, true, false, [], ◌∷◌, List, ap, sym, ◌∙◌, arith, inl, inr}
use Rattle.std.specs.Prelude.{Option, Some, None, option_map, option_and_then, unwrap_or}
use Rattle.std.proofs.lemmas.Bool.{cases_Bool}
use Rattle.fare_trip.specs.Itinerary.{Itinerary}
use Rattle.fare_tariff.specs.Record.{FareRecord}
use Rattle.fare_tariff.specs.Tariff.{Tariff}
use Rattle.fare_tariff.specs.Lookup.{fare_at}
use Rattle.fare_rules.specs.declared.amount.Amount.{Amount}
use Rattle.fare_rules.specs.declared.part.Part.{Part}
use Rattle.fare_rules.specs.ComponentAmount.{component_amount, is_half_round_trip}
use Rattle.fare_rules.specs.Construction.{start_of, end_of, part_at}
use Rattle.fare_rules.specs.Direction.{is_back_in}
use Rattle.fare_rules.specs.Shape.{is_hr, is_ow}
use Rattle.fare_rules.specs.UnitPrice.{one_way_price, unit_sheet, unit_kind, unit_minimum, unit_sum, part_amount, raised_one_way}
use Rattle.fare_component.specs.Table.{single_of, single_price}

none_some : (price : ℕ) → None ≡ Some price → ⊥
none_some price e = cc

-- what a one way fare costs as a unit of its own is its price one way
of_found : (tariff : Tariff) (trip : Itinerary) (a b number price : ℕ) (found : Option FareRecord)
    → option_and_then (single_of tariff trip a b number) found ≡ Some price
    → one_way_price tariff trip a b number ≡ Some price
of_found tariff trip a b number price None e = absurd (none_some price e)
of_found tariff trip a b number price (Some fare) e =
    elim (cases_Bool (is_half_round_trip fare)) [
      | inl hr ↦ absurd (none_some price (rw hr at e))
      | inr ow ↦ rw ow at e
    ]

-- what has an image is there
there_from : (f : Amount → ℕ) (price : ℕ) (o : Option Amount) → option_map f o ≡ Some price
    → (found : Amount) × (o ≡ Some found)
there_from f price None e = absurd (none_some price e)
there_from f price (Some found) e = (found, refl)

amount_from_price : (tariff : Tariff) (trip : Itinerary) (a b number price : ℕ)
    → one_way_price tariff trip a b number ≡ Some price
    → (found : Amount) × (component_amount tariff trip a b number false ≡ Some found)
unfolding one_way_price
amount_from_price tariff trip a b number price e =
    there_from (raised_one_way tariff trip a b number) price (component_amount tariff trip a b number false) e

module _ (tariff : Tariff) (trip : Itinerary) (parts : List Part) (k : ℕ) (way : is_ow tariff parts k ≡ true) where
  -- the sheet of a part alone, whose fare is one way
  sheet_alone : (found : Amount)
      → component_amount tariff trip (start_of trip parts k) (end_of parts k) (part_at parts k).fare false ≡ Some found
      → one_way_price tariff trip (start_of trip parts k) (end_of parts k) (part_at parts k).fare
      ≡ Some (unit_sheet tariff trip parts (k ∷ [])).price
  unfolding one_way_price unit_sheet unit_kind unit_minimum unit_sum part_amount is_back_in is_hr
  sheet_alone found out =
      let alone : 0 + found.amount ≡ found.amount = omega arith in
      rw (way, out, alone)

  -- it costs what its fare costs as a unit of its own
  pub price_alone : (price : ℕ)
      → single_price tariff trip (start_of trip parts k) (end_of parts k) (part_at parts k).fare ≡ Some price
      → (unit_sheet tariff trip parts (k ∷ [])).price ≡ price
  price_alone price e =
      let one = of_found tariff trip (start_of trip parts k) (end_of parts k) (part_at parts k).fare price (fare_at tariff (part_at parts k).fare) e in
      let found = amount_from_price tariff trip (start_of trip parts k) (end_of parts k) (part_at parts k).fare price one in
      let sheet = sheet_alone found.0 found.1 in
      ap (λ (o : Option ℕ). unwrap_or o 0) (sym sheet ∙ one)
