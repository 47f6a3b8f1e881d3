-- All that is known of a lawful construction, from which its texts are made.
use Rattle.std.specs.Prelude.{◌≡◌, ℕ, ◌<◌, List, Some, None, All}
use Rattle.fare_trip.specs.Itinerary.{Itinerary}
use Rattle.fare_tariff.specs.Record.{CurrencyRecord, IsCurrency}
use Rattle.fare_tariff.specs.Tariff.{Tariff}
use Rattle.fare_rules.specs.declared.limits.TheConstants.{PRICE_LIMIT}
use Rattle.fare_rules.specs.declared.part.Part.{Part}
use Rattle.fare_rules.specs.Lawful.{first_broken}
use Rattle.fare_rules.specs.UnitPrice.{price as unit_prices}
use Rattle.fare_calc.specs.declared.numbered_unit.NumberedUnit.{NumberedUnit}
use Rattle.fare_calc.specs.declared.part_sheet.PartSheet.{PartSheet}
use Rattle.fare_calc.specs.LineOf.{FitsLine}
use Rattle.fare_calc.specs.PartSheets.{home_currency, part_sheets}
use Rattle.fare_calc.specs.UnitSheets.{FitsUnit, unit_sheets}

-- the parts of a lawful construction, with the trip and the edition for which they are lawful, and their price
pub record LawfulParts : Type 0 where
  pub edition : Tariff
  pub trip : Itinerary
  pub parts : List Part
  pub price : ℕ

-- the sheets of the parts and of the units of a lawful construction, and the currency in which it is sold
pub record AreSheets (of : LawfulParts) (sheets : List PartSheet) (units : List NumberedUnit)
    (currency : CurrencyRecord) : Type 0 where
  pub lawful : first_broken of.edition of.trip of.parts ≡ None
  pub total : of.price ≡ unit_prices of.edition of.trip of.parts
  pub bound : of.price < PRICE_LIMIT
  pub sheets_are : sheets ≡ part_sheets of.edition of.trip of.parts
  pub sheets_fit : All FitsLine sheets
  pub units_are : units ≡ unit_sheets of.edition of.trip of.parts
  pub units_fit : All FitsUnit units
  pub currency_is : home_currency of.edition of.trip ≡ Some currency
  pub currency_in_range : IsCurrency currency.roe currency.decimals currency.unit
