-- How the values of the answers are spelled, piece by piece, as they are written.
use Rattle.std.specs.Prelude.{ℕ, zero, suc, ◌+◌, ◌-◌, Bool, true, false, List, [], ◌∷◌, ◌++◌, Option, Some, None, codes}
use Rattle.std.specs.Prelude.{decimal}
use Rattle.std.specs.Prelude.{flat_map, length}
use Rattle.json.specs.Print.{quoted}
use Rattle.fare_codes.specs.declared.cabin.Cabin.{Cabin}
use Rattle.fare_codes.specs.declared.carrier.Carrier.{Carrier}
use Rattle.fare_codes.specs.declared.city.City.{City}
use Rattle.fare_codes.specs.declared.kind.Kind.{Kind}
use Rattle.fare_codes.specs.declared.nuc.Nuc.{Nuc}
use Rattle.fare_codes.specs.declared.rule_id.RuleId.{RuleId}
use Rattle.fare_codes.specs.Numbers.{nuc_text, rate_text}
use Rattle.fare_codes.specs.Words.{cabin_text, kind_text}
use Rattle.fare_trip.specs.Itinerary.{Itinerary}
use Rattle.fare_tariff.specs.Record.{FareRecord, CurrencyRecord}
use Rattle.fare_tariff.specs.Tariff.{Tariff}
use Rattle.fare_rules.specs.declared.miles.Mileage.{Mileage}
use Rattle.fare_rules.specs.declared.miles.Mileage.TheVariants.{Direct, Within, Excess, NoTpm, NoMpm, Over}
use Rattle.fare_rules.specs.declared.miles.Miles.{Miles}
use Rattle.fare_rules.specs.declared.part.Part.{Part}
use Rattle.fare_rules.specs.declared.unit_sheet.UnitKind.{UnitKind}
use Rattle.fare_rules.specs.declared.unit_sheet.UnitKind.TheVariants.{OW, RT, CT, OJ}
use Rattle.fare_rules.specs.UnitPrice.{price}
use Rattle.fare_rules.specs.FirstK.{Priced}
use Rattle.fare_calc.specs.declared.numbered_unit.NumberedUnit.{NumberedUnit}
use Rattle.fare_calc.specs.declared.part_sheet.PartSheet.{PartSheet}
use Rattle.fare_calc.specs.LineOf.{line_of}
use Rattle.fare_calc.specs.PartSheets.{home_currency, part_sheets}
use Rattle.fare_calc.specs.UnitSheets.{unit_sheets}
use Rattle.fare_calc.specs.Worksheet.{local_amount, local_text, unit_kind_text}
use Rattle.fare_line.specs.LineText.{line_text}
use Rattle.fare_audit.specs.declared.verdict.Verdict.{Verdict}
use Rattle.fare_audit.specs.declared.verdict.Verdict.TheVariants.{OtherTrip, NoRecord, Broken, Figures, Lawful}

-- a string stands between quotation marks
unfoldable pub string_json : List ℕ → List ℕ
string_json text = quoted text

-- a truth
abbrev pub flag_json : Bool → List ℕ
flag_json true = codes "true"
flag_json false = codes "false"

-- an amount is a string
abbrev pub money_json : ℕ → List ℕ
money_json hundredths = string_json (nuc_text hundredths)

-- one more of a list, behind a comma
abbrev pub after_comma : {A : Type 0} → (A → List ℕ) → A → List ℕ
after_comma piece one = codes "," ++ piece one

-- the values of a list, with a comma before each but the first
abbrev pub listed_json : {A : Type 0} → (A → List ℕ) → List A → List ℕ
listed_json piece [] = []
listed_json piece (one ∷ rest) = piece one ++ flat_map (after_comma piece) rest

-- a list of values
abbrev pub array_json : {A : Type 0} → (A → List ℕ) → List A → List ℕ
array_json piece all = codes "[" ++ listed_json piece all ++ codes "]"

-- an edition
unfoldable pub edition_json : Tariff → List ℕ
edition_json tariff =
    codes "{\"effective\":" ++ string_json tariff.effective ++ codes ",\"number\":" ++ decimal tariff.number
    ++ codes "}"

-- a rule
abbrev pub rule_json : Option RuleId → List ℕ
rule_json None = codes "null"
rule_json (Some id) = string_json id

-- what a fare has before its record
unfoldable pub fare_front_json : Carrier → Cabin → Kind → List ℕ
fare_front_json carrier class kind =
    codes "{\"carrier\":" ++ string_json carrier ++ codes ",\"class\":" ++ string_json (cabin_text class)
    ++ codes ",\"kind\":" ++ string_json (kind_text kind)

-- what a fare has from its record on
unfoldable pub fare_rest_json : ℕ → Option RuleId → List ℕ
fare_rest_json place rule = codes ",\"record\":" ++ decimal place ++ codes ",\"rule\":" ++ rule_json rule ++ codes "}"

-- a fare
abbrev pub fare_json : ℕ → FareRecord → List ℕ
fare_json place fare = fare_front_json fare.carrier fare.class fare.kind ++ fare_rest_json place fare.rule

-- a pair in fare direction and its base
unfoldable pub pair_json : City → City → Nuc → List ℕ
pair_json from to base =
    codes "{\"amount\":" ++ money_json base ++ codes ",\"from\":" ++ string_json from ++ codes ",\"to\":"
    ++ string_json to ++ codes "}"

-- a higher intermediate point
abbrev pub higher_json : Option (City × City × Nuc) → List ℕ
higher_json None = codes "null"
higher_json (Some found) = pair_json found.0 found.1 found.2

-- miles with their surcharge
unfoldable pub measured_json : ℕ → Miles → List ℕ
measured_json surcharge miles =
    codes "{\"ema\":" ++ decimal miles.allowance ++ codes ",\"mpm\":" ++ decimal miles.mpm
    ++ codes ",\"net\":" ++ decimal miles.net ++ codes ",\"surcharge\":" ++ decimal surcharge
    ++ codes ",\"tpm\":" ++ decimal miles.sum ++ codes "}"

-- a mileage
abbrev pub miles_json : Mileage → List ℕ
miles_json Direct = codes "null"
miles_json (Within miles) = measured_json 0 miles
miles_json (Excess step miles) = measured_json step miles
miles_json (NoTpm number) = codes "\"\""
miles_json NoMpm = codes "\"\""
miles_json (Over miles) = codes "\"\""

-- so many numbers from one on, each behind a comma
unfoldable pub numbers_json : ℕ → ℕ → List ℕ
numbers_json zero first = []
numbers_json (suc more) first = codes "," ++ decimal first ++ numbers_json more (first + 1)

-- so many numbers from one on
abbrev pub counted_json : ℕ → ℕ → List ℕ
counted_json zero first = codes "[]"
counted_json (suc more) first = codes "[" ++ decimal first ++ numbers_json more (first + 1) ++ codes "]"

-- the sectors between two points of a trip
abbrev pub sectors_json : ℕ → ℕ → List ℕ
sectors_json start end = counted_json (end - start) (start + 1)

-- what a part has before its higher intermediate point
unfoldable pub part_front_json : PartSheet → List ℕ
part_front_json sheet =
    codes "{\"amount\":" ++ money_json sheet.amount ++ codes ",\"back\":" ++ flag_json sheet.back
    ++ codes ",\"fare\":" ++ fare_json sheet.number sheet.fare ++ codes ",\"filed\":" ++ money_json sheet.fare.amount
    ++ codes ",\"from\":" ++ string_json sheet.from

-- what a part has from its higher intermediate point on
unfoldable pub part_rest_json : PartSheet → List ℕ
part_rest_json sheet =
    codes ",\"hip\":" ++ higher_json sheet.higher ++ codes ",\"miles\":" ++ miles_json sheet.mileage
    ++ codes ",\"sectors\":" ++ sectors_json sheet.start sheet.end ++ codes ",\"to\":" ++ string_json sheet.to
    ++ codes ",\"unit\":" ++ decimal sheet.unit ++ codes "}"

-- a part
abbrev pub part_json : PartSheet → List ℕ
part_json sheet = part_front_json sheet ++ part_rest_json sheet

-- a minimum
unfoldable pub checked_json : ℕ → List ℕ → List ℕ
checked_json minimum check = codes "{\"amount\":" ++ money_json minimum ++ codes ",\"check\":\"" ++ check ++ codes "\"}"

-- the minimum of a unit
abbrev pub minimum_json : UnitKind → Option ℕ → List ℕ
minimum_json OW (Some minimum) = checked_json minimum (codes "BH")
minimum_json CT (Some minimum) = checked_json minimum (codes "CT")
minimum_json OW None = codes "null"
minimum_json CT None = codes "null"
minimum_json RT minimum = codes "null"
minimum_json OJ minimum = codes "null"

-- a unit
unfoldable pub unit_json : NumberedUnit → List ℕ
unit_json unit =
    codes "{\"kind\":\"" ++ unit_kind_text unit.sheet.kind
    ++ codes "\",\"minimum\":" ++ minimum_json unit.sheet.kind unit.sheet.minimum
    ++ codes ",\"number\":" ++ decimal unit.number ++ codes ",\"price\":" ++ money_json unit.sheet.price
    ++ codes ",\"sum\":" ++ money_json unit.sheet.sum ++ codes "}"

-- an amount of a currency, counted in the last of its decimals
unfoldable pub amount_json : ℕ → CurrencyRecord → List ℕ
amount_json amount currency =
    codes "{\"amount\":" ++ string_json (local_text currency.decimals amount)
    ++ codes ",\"currency\":" ++ string_json currency.currency ++ codes "}"

-- a price in a currency, where there is one
abbrev pub local_json : ℕ → Option CurrencyRecord → List ℕ
local_json price None = codes "null"
local_json price (Some currency) = amount_json (local_amount price currency) currency

-- the rate of exchange of a currency, where there is one
abbrev pub rate_json : Option CurrencyRecord → List ℕ
rate_json None = codes "null"
rate_json (Some currency) = string_json (rate_text currency.roe)

-- what a lawful construction has before its rate of exchange
unfoldable pub construction_front_json : Tariff → Itinerary → List Part → List ℕ
construction_front_json tariff trip parts =
    codes "{\"line\":" ++ string_json (line_text (line_of tariff trip parts))
    ++ codes ",\"local\":" ++ local_json (price tariff trip parts) (home_currency tariff trip)
    ++ codes ",\"parts\":" ++ array_json part_json (part_sheets tariff trip parts)

-- what a lawful construction has from its rate of exchange on
unfoldable pub construction_rest_json : Tariff → Itinerary → List Part → List ℕ
construction_rest_json tariff trip parts =
    codes ",\"roe\":" ++ rate_json (home_currency tariff trip)
    ++ codes ",\"total\":" ++ money_json (price tariff trip parts)
    ++ codes ",\"units\":" ++ array_json unit_json (unit_sheets tariff trip parts) ++ codes "}"

-- a lawful construction
abbrev pub construction_json : Tariff → Itinerary → List Part → List ℕ
construction_json tariff trip parts =
    construction_front_json tariff trip parts ++ construction_rest_json tariff trip parts

-- the best construction, or none
abbrev pub best_json : Tariff → Itinerary → Option (List Part) → List ℕ
best_json tariff trip None = codes "null"
best_json tariff trip (Some parts) = construction_json tariff trip parts

-- the answer for the best construction, or for none, with the LF that ends its line
unfoldable pub quotation_json : Tariff → Itinerary → Option (List Part) → List ℕ
quotation_json tariff trip best =
    codes "{\"edition\":" ++ edition_json tariff ++ codes ",\"quotation\":" ++ best_json tariff trip best ++ codes "}\n"

-- a construction with its price
unfoldable pub entry_json : Tariff → Itinerary → Priced → List ℕ
entry_json tariff trip one =
    codes "{\"line\":" ++ string_json (line_text (line_of tariff trip one.0)) ++ codes ",\"total\":" ++ money_json one.1
    ++ codes "}"

-- a comma stands at each place, from 0, but the first
abbrev pub comma_at : ℕ → List ℕ
comma_at zero = []
comma_at (suc before) = codes ","

-- what stands at a place; nothing where nothing does
abbrev pub place_json : Tariff → Itinerary → ℕ → Option Priced → List ℕ
place_json tariff trip place None = []
place_json tariff trip place (Some one) = comma_at place ++ entry_json tariff trip one

-- the answer for the first constructions, with the LF that ends its line
unfoldable pub first_json : Tariff → Itinerary → List Priced → List ℕ
first_json tariff trip first =
    codes "{\"best\":" ++ array_json (entry_json tariff trip) first ++ codes ",\"edition\":" ++ edition_json tariff
    ++ codes "}\n"

-- an edition of a list
unfoldable pub listed_edition_json : Tariff → List ℕ
listed_edition_json tariff =
    codes "{\"effective\":" ++ string_json tariff.effective ++ codes ",\"number\":" ++ decimal tariff.number
    ++ codes ",\"records\":" ++ decimal (length tariff.records) ++ codes "}"

-- the list of editions, with the LF that ends its line
unfoldable pub list_json : List Tariff → List ℕ
list_json editions = codes "{\"editions\":" ++ array_json listed_edition_json editions ++ codes "}\n"

-- a name and a number, each behind its member's name, and a sentence
unfoldable pub named_json : List ℕ → ℕ → List ℕ → List ℕ
named_json name n words = name ++ decimal n ++ codes ",\"words\":" ++ string_json words ++ codes "}"

-- a broken rule with its sentence
unfoldable pub broken_json : ℕ → ℕ → List ℕ → List ℕ
broken_json place rule words =
    codes "{\"name\":\"BROKEN\",\"place\":" ++ decimal place ++ named_json (codes ",\"rule\":") rule words

-- a lawful verdict with its sentence
unfoldable pub priced_json : ℕ → ℕ → List ℕ → List ℕ
priced_json price over words =
    codes "{\"name\":\"LAWFUL\",\"over\":" ++ money_json over ++ codes ",\"price\":" ++ money_json price
    ++ codes ",\"words\":" ++ string_json words ++ codes "}"

-- a verdict with its sentence
abbrev pub verdict_json : Verdict → List ℕ → List ℕ
verdict_json (OtherTrip sector) words = named_json (codes "{\"name\":\"OTHER TRIP\",\"sector\":") sector words
verdict_json (NoRecord place) words = named_json (codes "{\"name\":\"NO RECORD\",\"part\":") place words
verdict_json (Broken broken) words = broken_json broken.place broken.rule words
verdict_json (Figures place) words = named_json (codes "{\"name\":\"FIGURES\",\"part\":") place words
verdict_json (Lawful price over) words = priced_json price over words

-- a verdict in an edition, with its sentence and the LF that ends its line
unfoldable pub audit_json : Tariff → Verdict → List ℕ → List ℕ
audit_json tariff verdict words =
    codes "{\"edition\":" ++ edition_json tariff ++ codes ",\"verdict\":" ++ verdict_json verdict words ++ codes "}\n"

-- a refusal by its plain line and its sentence, with the LF that ends its line
unfoldable pub refusal_json : List ℕ → List ℕ → List ℕ
refusal_json text words =
    codes "{\"fault\":{\"text\":" ++ string_json text ++ codes ",\"words\":" ++ string_json words ++ codes "}}\n"
