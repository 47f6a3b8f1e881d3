-- The line of a construction.
use Rattle.std.specs.Prelude.{◌≡◌, ℕ, ◌+◌, ◌-◌, ◌≤◌, true, not, List, Option, Some, None, map, filter_map, option_map}
use Rattle.std.specs.Prelude.{◌==◌, ◌&&◌, nat_lt, if◌then◌else◌}
use Rattle.fare_codes.specs.declared.city.City.{City}
use Rattle.fare_codes.specs.declared.nuc.Nuc.{Nuc}
use Rattle.fare_trip.specs.Itinerary.{Itinerary, count, point, sector}
use Rattle.fare_tariff.specs.Record.{CurrencyRecord}
use Rattle.fare_tariff.specs.Tariff.{Tariff}
use Rattle.fare_rules.specs.declared.limits.TheConstants.{MOST_AMOUNT}
use Rattle.fare_rules.specs.declared.miles.Mileage.{Mileage}
use Rattle.fare_rules.specs.declared.miles.Mileage.TheVariants.{Direct, Within, Excess, NoTpm, NoMpm, Over}
use Rattle.fare_rules.specs.declared.part.Part.{Part}
use Rattle.fare_rules.specs.Numbers.{numbers}
use Rattle.fare_rules.specs.Span.{is_surface, is_transfer}
use Rattle.fare_rules.specs.UnitPrice.{price}
use Rattle.fare_line.specs.declared.line.part.Letter.{Letter}
use Rattle.fare_line.specs.declared.line.part.Letter.TheVariants.{Bare, Mileage as Marked}
use Rattle.fare_line.specs.declared.line.sector.LineSector.{LineSector}
use Rattle.fare_calc.specs.declared.numbered_unit.NumberedUnit.{NumberedUnit}
use Rattle.fare_calc.specs.declared.part_sheet.PartSheet.{PartSheet}
use Rattle.fare_line.specs.declared.line.plus_up.PlusUp.{PlusUp}
use Rattle.fare_line.specs.declared.line.part.LinePart.{LinePart}
use Rattle.fare_line.specs.Line.{CalculationLine, is_letter, is_unit}
use Rattle.fare_calc.specs.PartSheets.{part_sheets, home_currency}
use Rattle.fare_calc.specs.UnitSheets.{unit_sheets}

-- a flown sector is marked where it reaches a transfer that isn't the last point
abbrev pub flown_sector : Itinerary → ℕ → LineSector
flown_sector trip number = record {
  carrier = (sector trip number).carrier;
  transfer = is_transfer trip number && not (number == count trip);
  to = (sector trip number).to;
}

-- the sector of a line for a sector of the trip, where that is no surface sector
abbrev pub flown_of : Itinerary → ℕ → Option LineSector
flown_of trip number = if is_surface trip number then None else Some (flown_sector trip number)

-- the flown sectors of a trip from a number on
abbrev pub flown_from : Itinerary → ℕ → List LineSector
flown_from trip first = filter_map (flown_of trip) (numbers first (count trip + 1))

-- a part of one sector has no letter, and each other one that of its surcharge
abbrev pub letter_of : Mileage → Letter
letter_of Direct = Bare
letter_of (Within miles) = Marked 0
letter_of (Excess step miles) = Marked step
letter_of (NoTpm number) = Bare
letter_of NoMpm = Bare
letter_of (Over miles) = Bare

-- the two cities of a higher intermediate point
abbrev pub cities_of : City × City × Nuc → City × City
cities_of found = (found.0, found.1)

-- a part of a line is the part's end and gap, its letter, pair and amount, and its fare and unit
abbrev pub line_part : PartSheet → LinePart
line_part sheet = record {
  end = sheet.end;
  letter = letter_of sheet.mileage;
  pair = option_map cities_of sheet.higher;
  amount = sheet.amount;
  carrier = sheet.fare.carrier;
  class = sheet.fare.class;
  kind = sheet.fare.kind;
  rule = sheet.fare.rule;
  unit = sheet.unit;
  gap = sheet.gap;
}

-- a unit whose price is above the sum of its amounts has a plus-up of the difference
abbrev pub plus_up_of : NumberedUnit → Option PlusUp
plus_up_of unit =
    if nat_lt unit.sheet.sum unit.sheet.price
    then Some (record { unit = unit.number; amount = unit.sheet.price - unit.sheet.sum }) else None

-- a currency's rate of exchange, 0 where there is no currency
abbrev pub rate_of : Option CurrencyRecord → ℕ
rate_of None = 0
rate_of (Some currency) = currency.roe

-- the line of a construction: the trip's first city and flown sectors, the parts, the plus-ups of the units by their
-- numbers, the price, and the rate of exchange of the country where the trip begins
unfoldable pub line_of : Tariff → Itinerary → List Part → CalculationLine
line_of tariff trip parts = record {
  from = point trip 0;
  sectors = flown_from trip 1;
  parts = map line_part (part_sheets tariff trip parts);
  plus = filter_map plus_up_of (unit_sheets tariff trip parts);
  total = price tariff trip parts;
  roe = rate_of (home_currency tariff trip);
}

-- what a line asks of the sheet of a part: its letter is that of a surcharge, a part without a letter has no higher
-- intermediate point, its unit is one of a line, and its amount is at most 12,500,000.00
pub record FitsLine (sheet : PartSheet) : Type 0 where
  pub letter : is_letter (letter_of sheet.mileage) ≡ true
  pub pair : letter_of sheet.mileage ≡ Bare → sheet.higher ≡ None
  pub unit : is_unit sheet.unit ≡ true
  pub amount : sheet.amount ≤ MOST_AMOUNT
