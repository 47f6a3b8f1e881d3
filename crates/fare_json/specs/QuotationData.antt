-- The JSON value that answers a quotation. The members of each object stand in the order of their names, and all of
-- them are there; money, rates and days are strings in the form of the plain text.
use Rattle.std.specs.Prelude.{ℕ, ◌+◌, List, Option, Some, None, map, codes}
use Rattle.serde_json.specs.Data.{Data, null, boolean, number, unsigned, string, array, object, no_members, member}
use Rattle.serde_json.specs.View.{items_of}
use Rattle.fare_codes.specs.declared.city.City.{City}
use Rattle.fare_codes.specs.declared.nuc.Nuc.{Nuc}
use Rattle.fare_codes.specs.declared.rule_id.RuleId.{RuleId}
use Rattle.fare_codes.specs.Numbers.{nuc_text, rate_text}
use Rattle.fare_codes.specs.Words.{cabin_text, kind_text}
use Rattle.fare_trip.specs.Itinerary.{Itinerary}
use Rattle.fare_tariff.specs.Record.{FareRecord, CurrencyRecord}
use Rattle.fare_tariff.specs.Tariff.{Tariff}
use Rattle.fare_rules.specs.declared.miles.Mileage.{Mileage}
use Rattle.fare_rules.specs.declared.miles.Mileage.TheVariants.{Direct, Within, Excess, NoTpm, NoMpm, Over}
use Rattle.fare_rules.specs.declared.miles.Miles.{Miles}
use Rattle.fare_rules.specs.declared.part.Part.{Part}
use Rattle.fare_rules.specs.declared.unit_sheet.UnitKind.{UnitKind}
use Rattle.fare_rules.specs.declared.unit_sheet.UnitKind.TheVariants.{OW, RT, CT, OJ}
use Rattle.fare_rules.specs.Numbers.{numbers}
use Rattle.fare_rules.specs.UnitPrice.{price}
use Rattle.fare_calc.specs.declared.numbered_unit.NumberedUnit.{NumberedUnit}
use Rattle.fare_calc.specs.declared.part_sheet.PartSheet.{PartSheet}
use Rattle.fare_calc.specs.LineOf.{line_of}
use Rattle.fare_calc.specs.PartSheets.{home_currency, part_sheets}
use Rattle.fare_calc.specs.UnitSheets.{unit_sheets}
use Rattle.fare_calc.specs.Worksheet.{local_amount, local_text, unit_kind_text}
use Rattle.fare_line.specs.LineText.{line_text}

-- a count, a record's number and the like is a number
abbrev pub count : ℕ → Data
count n = number (unsigned n)

-- an amount is a string: a number, a point and two digits
abbrev pub money : ℕ → Data
money hundredths = string (nuc_text hundredths)

-- an edition is its effective day and its number
unfoldable pub edition_data : Tariff → Data
edition_data tariff =
    object (member (codes "effective") (string tariff.effective)
    (member (codes "number") (count tariff.number) no_members))

-- a rule is its id; the free rule is null
abbrev pub rule_data : Option RuleId → Data
rule_data None = null
rule_data (Some id) = string id

-- a fare is its carrier, its class, its kind, its record's number and its rule
unfoldable pub fare_data : ℕ → FareRecord → Data
fare_data place fare =
    object (member (codes "carrier") (string fare.carrier)
    (member (codes "class") (string (cabin_text fare.class))
    (member (codes "kind") (string (kind_text fare.kind))
    (member (codes "record") (count place)
    (member (codes "rule") (rule_data fare.rule) no_members)))))

-- a higher intermediate point is its base and its two cities in fare direction; where there is none it is null
unfoldable pub higher_data : Option (City × City × Nuc) → Data
higher_data None = null
higher_data (Some found) =
    object (member (codes "amount") (money found.2)
    (member (codes "from") (string found.0)
    (member (codes "to") (string found.1) no_members)))

-- miles are the allowance, what is permitted, the net, the surcharge and the ticketed sum
unfoldable pub measured_data : ℕ → Miles → Data
measured_data surcharge miles =
    object (member (codes "ema") (count miles.allowance)
    (member (codes "mpm") (count miles.mpm)
    (member (codes "net") (count miles.net)
    (member (codes "surcharge") (count surcharge)
    (member (codes "tpm") (count miles.sum) no_members)))))

-- a part of one sector has no miles. Where the miles let no fare be used, which is so of no lawful part, an empty text
-- stands for them
abbrev pub miles_data : Mileage → Data
miles_data Direct = null
miles_data (Within miles) = measured_data 0 miles
miles_data (Excess step miles) = measured_data step miles
miles_data (NoTpm sector) = string (codes "")
miles_data NoMpm = string (codes "")
miles_data (Over miles) = string (codes "")

-- the sectors between two points of a trip, by their numbers
abbrev pub sectors_data : ℕ → ℕ → Data
sectors_data start end = array (items_of (map count (numbers (start + 1) (end + 1))))

-- a part of a construction
unfoldable pub part_data : PartSheet → Data
part_data sheet =
    object (member (codes "amount") (money sheet.amount)
    (member (codes "back") (boolean sheet.back)
    (member (codes "fare") (fare_data sheet.number sheet.fare)
    (member (codes "filed") (money sheet.fare.amount)
    (member (codes "from") (string sheet.from)
    (member (codes "hip") (higher_data sheet.higher)
    (member (codes "miles") (miles_data sheet.mileage)
    (member (codes "sectors") (sectors_data sheet.start sheet.end)
    (member (codes "to") (string sheet.to)
    (member (codes "unit") (count sheet.unit) no_members))))))))))

-- a minimum is its amount and the name of its check
unfoldable pub checked_data : ℕ → List ℕ → Data
checked_data minimum check =
    object (member (codes "amount") (money minimum)
    (member (codes "check") (string check) no_members))

-- the minimum that a unit was checked against: the backhaul minimum one way, and the circle minimum of a circle trip
abbrev pub minimum_data : UnitKind → Option ℕ → Data
minimum_data OW (Some minimum) = checked_data minimum (codes "BH")
minimum_data CT (Some minimum) = checked_data minimum (codes "CT")
minimum_data OW None = null
minimum_data CT None = null
minimum_data RT minimum = null
minimum_data OJ minimum = null

-- a pricing unit is its kind, its minimum, its number, its price and the sum of its amounts
unfoldable pub unit_data : NumberedUnit → Data
unit_data unit =
    object (member (codes "kind") (string (unit_kind_text unit.sheet.kind))
    (member (codes "minimum") (minimum_data unit.sheet.kind unit.sheet.minimum)
    (member (codes "number") (count unit.number)
    (member (codes "price") (money unit.sheet.price)
    (member (codes "sum") (money unit.sheet.sum) no_members)))))

-- a price in a currency: the amount in the currency's own form, and its code
unfoldable pub sold_data : ℕ → CurrencyRecord → Data
sold_data price currency =
    object (member (codes "amount") (string (local_text currency.decimals (local_amount price currency)))
    (member (codes "currency") (string currency.currency) no_members))

-- a price in a currency, where there is one
abbrev pub local_data : ℕ → Option CurrencyRecord → Data
local_data price None = null
local_data price (Some currency) = sold_data price currency

-- the rate of exchange of a currency, where there is one
abbrev pub rate_data : Option CurrencyRecord → Data
rate_data None = null
rate_data (Some currency) = string (rate_text currency.roe)

-- a lawful construction: its line, its price in NUC and in the currency of the country where the trip begins, and how
-- its parts and its units are priced
unfoldable pub construction_data : Tariff → Itinerary → List Part → Data
construction_data tariff trip parts =
    object (member (codes "line") (string (line_text (line_of tariff trip parts)))
    (member (codes "local") (local_data (price tariff trip parts) (home_currency tariff trip))
    (member (codes "parts") (array (items_of (map part_data (part_sheets tariff trip parts))))
    (member (codes "roe") (rate_data (home_currency tariff trip))
    (member (codes "total") (money (price tariff trip parts))
    (member (codes "units") (array (items_of (map unit_data (unit_sheets tariff trip parts)))) no_members))))))

-- the best construction; where none is lawful it is null
abbrev pub best_data : Tariff → Itinerary → Option (List Part) → Data
best_data tariff trip None = null
best_data tariff trip (Some parts) = construction_data tariff trip parts

-- the answer for the best construction, or for none, in an edition
unfoldable pub quotation_data : Tariff → Itinerary → Option (List Part) → Data
quotation_data tariff trip best =
    object (member (codes "edition") (edition_data tariff)
    (member (codes "quotation") (best_data tariff trip best) no_members))
