-- Constructions with what the rules say of each.
use Rattle.std.specs.Prelude.{ℕ, List, Option, Result, Ok, Err, map}
use Rattle.fare_trip.specs.Itinerary.{Itinerary}
use Rattle.fare_tariff.specs.Tariff.{Tariff}
use Rattle.fare_rules.specs.declared.broken.Broken.{Broken}
use Rattle.fare_rules.specs.declared.part.Part.{Part}
use Rattle.fare_rules.specs.declared.unit_sheet.UnitKind.{UnitKind}
use Rattle.fare_rules.specs.declared.unit_sheet.UnitSheet.{UnitSheet}
use Rattle.fare_rules.specs.Construction.{own, units}
use Rattle.fare_rules.specs.UnitPrice.{unit_sheet}
use Rattle.fare_rules.specs.Lawful.{lawful_price}

-- an edition, a trip and parts, with the price or the first broken rule that is expected
abbrev pub Case : Type 0
Case = Tariff × Itinerary × List Part × Result ℕ Broken

-- a construction with what is expected of it
abbrev pub case : Tariff → Itinerary → List Part → Result ℕ Broken → Case
case tariff trip parts expected = (tariff, trip, parts, expected)

-- a price
abbrev pub priced : ℕ → Result ℕ Broken
priced price = Ok price

-- a rule that is broken at a place
abbrev pub broken : ℕ → ℕ → Result ℕ Broken
broken rule place = Err (record { rule = rule; place = place })

-- what the rules say of a construction
abbrev pub found : Case → Result ℕ Broken
found one = lawful_price one.0 one.1 one.2

-- what is expected of it
abbrev pub expected : Case → Result ℕ Broken
expected one = one.3

-- the sheet of a unit by its number
abbrev sheet_of_unit : Tariff → Itinerary → List Part → ℕ → UnitSheet
sheet_of_unit tariff trip parts unit = unit_sheet tariff trip parts (own parts unit)

-- the sheets of the units of a construction
abbrev pub sheets : Tariff → Itinerary → List Part → List UnitSheet
sheets tariff trip parts = map (sheet_of_unit tariff trip parts) (units parts)

-- a sheet by its kind, sum, minimum and price
abbrev pub sheet : UnitKind → ℕ → Option ℕ → ℕ → UnitSheet
sheet kind sum minimum price = record { kind = kind; sum = sum; minimum = minimum; price = price }
