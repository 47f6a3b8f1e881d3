-- How the units of a construction are priced, each with its number, as the line and the worksheet tell it.
use Rattle.std.specs.Prelude.{◌≡◌, ℕ, ◌≤◌, true, List, IfSome, map}
use Rattle.fare_trip.specs.Itinerary.{Itinerary}
use Rattle.fare_tariff.specs.Tariff.{Tariff}
use Rattle.fare_rules.specs.declared.part.Part.{Part}
use Rattle.fare_rules.specs.Construction.{units, own}
use Rattle.fare_rules.specs.UnitPrice.{unit_sheet}
use Rattle.fare_units.specs.declared.prices.price.TheConstants.{MOST_UNIT_PRICE}
use Rattle.fare_line.specs.Line.{is_unit}
use Rattle.fare_calc.specs.declared.numbered_unit.NumberedUnit.{NumberedUnit}

-- the unit of a number, with how it is priced
abbrev pub numbered_unit : Tariff → Itinerary → List Part → ℕ → NumberedUnit
numbered_unit tariff trip parts unit =
    record { number = unit; sheet = unit_sheet tariff trip parts (own parts unit) }

-- the units of a construction by their numbers
abbrev pub unit_sheets : Tariff → Itinerary → List Part → List NumberedUnit
unit_sheets tariff trip parts = map (numbered_unit tariff trip parts) (units parts)

-- what holds of a unit of a lawful construction: its number is one of a line, its price is at most 200,000,000.00, and
-- neither its sum nor its minimum is above its price
pub record FitsUnit (unit : NumberedUnit) : Type 0 where
  pub number : is_unit unit.number ≡ true
  pub price : unit.sheet.price ≤ MOST_UNIT_PRICE
  pub sum : unit.sheet.sum ≤ unit.sheet.price
  pub minimum : IfSome unit.sheet.minimum (λ minimum. minimum ≤ unit.sheet.price)
