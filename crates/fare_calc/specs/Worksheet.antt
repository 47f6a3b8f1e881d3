-- The worksheet of a construction: how its parts, its units and its total come about.
use Rattle.std.specs.Prelude.{ℕ, ◌+◌, zero, suc, Bool, true, false, List, [], ◌++◌, flat_map, Option, Some, None, codes}
use Rattle.std.specs.Prelude.{decimal}
use Rattle.fare_codes.specs.declared.city.City.{City}
use Rattle.fare_codes.specs.declared.nuc.Nuc.{Nuc}
use Rattle.fare_codes.specs.Amounts.{converted}
use Rattle.fare_codes.specs.Numbers.{decimal_text, nuc_text, rate_text}
use Rattle.fare_trip.specs.Itinerary.{Itinerary}
use Rattle.fare_tariff.specs.Record.{FareRecord, CurrencyRecord}
use Rattle.fare_tariff.specs.Tariff.{Tariff}
use Rattle.fare_rules.specs.declared.miles.Mileage.{Mileage}
use Rattle.fare_rules.specs.declared.miles.Mileage.TheVariants.{Direct, Within, Excess, NoTpm, NoMpm, Over}
use Rattle.fare_rules.specs.declared.miles.Miles.{Miles}
use Rattle.fare_rules.specs.declared.part.Part.{Part}
use Rattle.fare_rules.specs.declared.unit_sheet.UnitKind.{UnitKind}
use Rattle.fare_rules.specs.declared.unit_sheet.UnitKind.TheVariants.{OW, RT, CT, OJ}
use Rattle.fare_rules.specs.UnitPrice.{price}
use Rattle.fare_calc.specs.declared.numbered_unit.NumberedUnit.{NumberedUnit}
use Rattle.fare_calc.specs.declared.part_sheet.PartSheet.{PartSheet}
use Rattle.fare_line.specs.LineText.{letter_text, tag_text}
use Rattle.fare_calc.specs.LineOf.{letter_of}
use Rattle.fare_calc.specs.PartSheets.{part_sheets, home_currency}
use Rattle.fare_calc.specs.UnitSheets.{unit_sheets}

-- two cities as from and to
abbrev pub way_text : City → City → List ℕ
way_text from to = from ++ codes "-" ++ to

-- a part goes out or is priced back
abbrev pub direction_text : Bool → List ℕ
direction_text true = codes "BACK"
direction_text false = codes "OUT"

-- the line of a part: its number, its cities in travel order, its unit and its direction
abbrev pub part_line : PartSheet → List ℕ
part_line sheet =
    codes "PART " ++ decimal sheet.place ++ codes " " ++ way_text sheet.from sheet.to
    ++ codes " UNIT " ++ decimal sheet.unit ++ codes " " ++ direction_text sheet.back ++ codes "\n"

-- the line of a fare: its record number, its tag and the filed amount
abbrev pub filed_line : ℕ → FareRecord → List ℕ
filed_line number fare =
    codes "FARE " ++ decimal number ++ codes " " ++ tag_text fare.carrier fare.class fare.kind fare.rule ++ codes " "
    ++ nuc_text fare.amount ++ codes "\n"

-- miles as the ticketed sum, the allowance, the net and what is permitted
unfoldable pub miles_text : Miles → List ℕ
miles_text miles =
    codes "MILES TPM " ++ decimal miles.sum ++ codes " EMA " ++ decimal miles.allowance
    ++ codes " NET " ++ decimal miles.net ++ codes " MPM " ++ decimal miles.mpm

-- the line of miles with a letter
abbrev pub measured_line : Miles → List ℕ → List ℕ
measured_line miles letter = miles_text miles ++ codes " " ++ letter ++ codes "\n"

-- the line of a mileage: a part of one sector is direct; one that lets no fare be used has no line
abbrev pub miles_line : Mileage → List ℕ
miles_line Direct = codes "MILES DIRECT\n"
miles_line (Within miles) = measured_line miles (letter_text (letter_of (Within miles)))
miles_line (Excess step miles) = measured_line miles (letter_text (letter_of (Excess step miles)))
miles_line (NoTpm number) = []
miles_line NoMpm = []
miles_line (Over miles) = []

-- the line of the higher intermediate point: its cities in fare direction and the base, or that there is none
abbrev pub higher_line : Option (City × City × Nuc) → List ℕ
higher_line None = codes "HIP NONE\n"
higher_line (Some found) = codes "HIP " ++ way_text found.0 found.1 ++ codes " " ++ nuc_text found.2 ++ codes "\n"

-- the line of a component amount
abbrev pub amount_line : ℕ → List ℕ
amount_line amount = codes "AF " ++ nuc_text amount ++ codes "\n"

-- the five lines of a part
unfoldable pub part_lines : PartSheet → List ℕ
part_lines sheet =
    part_line sheet ++ filed_line sheet.number sheet.fare ++ miles_line sheet.mileage ++ higher_line sheet.higher
    ++ amount_line sheet.amount

-- the kind of a unit
abbrev pub unit_kind_text : UnitKind → List ℕ
unit_kind_text OW = codes "OW"
unit_kind_text RT = codes "RT"
unit_kind_text CT = codes "CT"
unit_kind_text OJ = codes "OJ"

-- the minimum that a unit was checked against: the backhaul minimum one way, and the circle minimum of a circle trip
abbrev pub check_text : UnitKind → Option ℕ → List ℕ
check_text OW (Some minimum) = codes "BH " ++ nuc_text minimum
check_text CT (Some minimum) = codes "CT " ++ nuc_text minimum
check_text OW None = codes "NONE"
check_text CT None = codes "NONE"
check_text RT minimum = codes "NONE"
check_text OJ minimum = codes "NONE"

-- the line of a unit: its number and kind, the sum of its amounts, its check and its price
unfoldable pub unit_line : NumberedUnit → List ℕ
unit_line unit =
    codes "UNIT " ++ decimal unit.number ++ codes " " ++ unit_kind_text unit.sheet.kind
    ++ codes " SUM " ++ nuc_text unit.sheet.sum ++ codes " CHECK " ++ check_text unit.sheet.kind unit.sheet.minimum
    ++ codes " PRICE " ++ nuc_text unit.sheet.price ++ codes "\n"

-- a local amount, counted in the last of its decimals: without decimals it has no point
abbrev pub local_text : ℕ → ℕ → List ℕ
local_text zero amount = decimal amount
local_text (suc less) amount = decimal_text (less + 1) amount

-- a price converted to a currency, counted in the last of its decimals
abbrev pub local_amount : ℕ → CurrencyRecord → ℕ
local_amount price currency = converted price currency.roe currency.decimals currency.unit currency.mode

-- the lines of a currency: its rate of exchange, and a price converted to it
unfoldable pub currency_lines : ℕ → CurrencyRecord → List ℕ
currency_lines price currency =
    codes "ROE " ++ rate_text currency.roe ++ codes "\nLOCAL " ++ currency.currency ++ codes " "
    ++ local_text currency.decimals (local_amount price currency) ++ codes "\n"

-- the lines of a currency, where there is one
abbrev pub currency_lines_of : ℕ → Option CurrencyRecord → List ℕ
currency_lines_of price None = []
currency_lines_of price (Some currency) = currency_lines price currency

-- the lines of a total: the price, and the rate of exchange and the local amount by the currency
abbrev pub total_lines : ℕ → Option CurrencyRecord → List ℕ
total_lines price currency = codes "TOTAL NUC " ++ nuc_text price ++ codes "\n" ++ currency_lines_of price currency

-- the worksheet of a construction: the lines of its parts in their order, those of its units by their numbers, and
-- those of its price in the currency of the country where the trip begins
unfoldable pub worksheet_text : Tariff → Itinerary → List Part → List ℕ
worksheet_text tariff trip parts =
    flat_map part_lines (part_sheets tariff trip parts) ++ flat_map unit_line (unit_sheets tariff trip parts)
    ++ total_lines (price tariff trip parts) (home_currency tariff trip)
