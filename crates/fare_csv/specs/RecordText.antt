-- The records of a tariff text: what the fields of each kind spell.
use Rattle.std.specs.Prelude.{ℕ, Bool, true, false, List, Option, Some, None, option_map, Result, Ok, ◌==◌, length}
use Rattle.std.specs.Prelude.{codes, nat_lt, if◌then◌else◌}
use Rattle.std.specs.Str.{bytes_eq}
use Rattle.fare_codes.specs.Codes.{read_city, read_country, read_currency, read_carrier, read_rule_id}
use Rattle.fare_codes.specs.Words.{read_area, read_indicator, read_mode, read_cabin, read_kind}
use Rattle.fare_codes.specs.Day.{read_month_day}
use Rattle.fare_codes.specs.Numbers.{read_nuc, read_number, read_rate}
use Rattle.fare_codes.specs.Season.{whole_year}
use Rattle.fare_codes.specs.declared.city.City.{City}
use Rattle.fare_codes.specs.declared.limits.TheConstants.{MOST_UNIT}
use Rattle.fare_codes.specs.declared.nuc.TheConstants.{FARE_LIMIT}
use Rattle.fare_codes.specs.declared.rule_id.RuleId.{RuleId}
use Rattle.fare_codes.specs.declared.season.Season.{Season}
use Rattle.fare_records.specs.declared.limits.TheConstants.{MOST_DAYS, MOST_MILES, MOST_STOPS, MOST_TRANSFERS}
use Rattle.fare_records.specs.declared.fare_key.FareKey.{FareKey}
use Rattle.fare_csv.specs.declared.head.Version.{Version}
use Rattle.fare_csv.specs.declared.head.Version.TheVariants.{One, Two}
use Rattle.fare_records.specs.declared.city_record.CityRec.{CityRec}
use Rattle.fare_records.specs.Record.{CurrencyRecord, RuleRecord, FareRecord, MileageRecord, PairRecord, AllowanceRecord}
use Rattle.fare_csv.specs.declared.text_fault.TextFault.{TextFault}
use Rattle.fare_csv.specs.Rows.{Fields}
use Rattle.fare_csv.specs.NameList.{read_names}
use Rattle.fare_csv.specs.Numbers.{above_zero}
use Rattle.fare_ports.specs.Memory.{◌>>=◌}
use Rattle.fare_csv.specs.Fields.{field, counted, in_form}

-- CITY: the code, the country and the area
unfoldable pub city_of : ℕ → Fields → Result CityRec TextFault
city_of number fields = do
  _ ← counted number 4 fields
  code ← in_form number 2 (read_city (field fields 1))
  country ← in_form number 3 (read_country (field fields 2))
  area ← in_form number 4 (read_area (field fields 3))
  Ok (record { code = code; country = country; area = area })

-- CUR: the country, its currency, the rate of exchange, the decimals, the unit and the mode
unfoldable pub currency_of : ℕ → Fields → Result CurrencyRecord TextFault
currency_of number fields = do
  _ ← counted number 7 fields
  country ← in_form number 2 (read_country (field fields 1))
  currency ← in_form number 3 (read_currency (field fields 2))
  roe ← in_form number 4 (above_zero (read_rate (field fields 3)))
  decimals ← in_form number 5 (read_number 2 (field fields 4))
  unit ← in_form number 6 (above_zero (read_number MOST_UNIT (field fields 5)))
  mode ← in_form number 7 (read_mode (field fields 6))
  Ok (record { country = country; currency = currency; roe = roe; decimals = decimals; unit = unit; mode = mode })

-- MPM: the two cities, the indicator and the miles
unfoldable pub mileage_of : ℕ → Fields → Result MileageRecord TextFault
mileage_of number fields = do
  _ ← counted number 5 fields
  from ← in_form number 2 (read_city (field fields 1))
  to ← in_form number 3 (read_city (field fields 2))
  ind ← in_form number 4 (read_indicator (field fields 3))
  miles ← in_form number 5 (read_number MOST_MILES (field fields 4))
  Ok (record { from = from; to = to; ind = ind; miles = miles })

-- TPM: the two cities and the miles
unfoldable pub pair_of : ℕ → Fields → Result PairRecord TextFault
pair_of number fields = do
  _ ← counted number 4 fields
  from ← in_form number 2 (read_city (field fields 1))
  to ← in_form number 3 (read_city (field fields 2))
  miles ← in_form number 4 (read_number MOST_MILES (field fields 3))
  Ok (record { from = from; to = to; miles = miles })

-- a via city may be empty: every way
unfoldable pub read_via : List ℕ → Option (Option City)
read_via bytes = if length bytes == 0 then Some None else option_map Some (read_city bytes)

-- EMA: the two cities, the indicator, the via city and the miles
unfoldable pub allowance_of : ℕ → Fields → Result AllowanceRecord TextFault
allowance_of number fields = do
  _ ← counted number 6 fields
  from ← in_form number 2 (read_city (field fields 1))
  to ← in_form number 3 (read_city (field fields 2))
  ind ← in_form number 4 (read_indicator (field fields 3))
  via ← in_form number 5 (read_via (field fields 4))
  miles ← in_form number 6 (read_number MOST_MILES (field fields 5))
  Ok (record { from = from; to = to; ind = ind; via = via; miles = miles })

-- whether a surcharge is allowed, as `Y` or `N`
unfoldable pub read_excess : List ℕ → Option Bool
read_excess bytes =
    if bytes_eq bytes (codes "Y") then Some true
    else (if bytes_eq bytes (codes "N") then Some false else None)

-- RULE: the id, the greatest stops and transfers, the least advance, the least and the greatest stay, the excess and
-- the lists of units and ends
unfoldable pub rule_of : ℕ → Fields → Result RuleRecord TextFault
rule_of number fields = do
  _ ← counted number 10 fields
  id ← in_form number 2 (read_rule_id (field fields 1))
  stops ← in_form number 3 (read_number MOST_STOPS (field fields 2))
  transfers ← in_form number 4 (read_number MOST_TRANSFERS (field fields 3))
  advance ← in_form number 5 (read_number MOST_DAYS (field fields 4))
  min_stay ← in_form number 6 (read_number MOST_DAYS (field fields 5))
  max_stay ← in_form number 7 (read_number MOST_DAYS (field fields 6))
  excess ← in_form number 8 (read_excess (field fields 7))
  units ← in_form number 9 (read_names (field fields 8))
  ends ← in_form number 10 (read_names (field fields 9))
  Ok (record {
    id = id;
    stops = stops;
    transfers = transfers;
    advance = advance;
    min_stay = min_stay;
    max_stay = max_stay;
    excess = excess;
    units = units;
    ends = ends;
  })

-- an amount below 10,000,000.00
abbrev pub below_ten_million : Option ℕ → Option ℕ
below_ten_million None = None
below_ten_million (Some hundredths) = if nat_lt hundredths FARE_LIMIT then Some hundredths else None

-- the amount of a fare has at most seven digits before its point
unfoldable pub read_amount : List ℕ → Option ℕ
read_amount bytes = below_ten_million (read_nuc bytes)

-- a rule's id may be empty: the free rule
unfoldable pub read_fare_rule : List ℕ → Option (Option RuleId)
read_fare_rule bytes = if length bytes == 0 then Some None else option_map Some (read_rule_id bytes)

-- what both versions of a FARE begin with: the two cities, the indicator, the carrier, the class, the kind and the rule
unfoldable pub fare_key_of : ℕ → Fields → Result FareKey TextFault
fare_key_of number fields = do
  from ← in_form number 2 (read_city (field fields 1))
  to ← in_form number 3 (read_city (field fields 2))
  ind ← in_form number 4 (read_indicator (field fields 3))
  carrier ← in_form number 5 (read_carrier (field fields 4))
  class ← in_form number 6 (read_cabin (field fields 5))
  kind ← in_form number 7 (read_kind (field fields 6))
  rule ← in_form number 8 (read_fare_rule (field fields 7))
  Ok (record { from = from; to = to; ind = ind; carrier = carrier; class = class; kind = kind; rule = rule })

-- a fare of a key, a season and an amount
abbrev pub fare_with : FareKey → Season → ℕ → FareRecord
fare_with key season amount = record {
  from = key.from;
  to = key.to;
  ind = key.ind;
  carrier = key.carrier;
  class = key.class;
  kind = key.kind;
  rule = key.rule;
  season = season;
  amount = amount;
}

-- FARE in version 1: the amount behind the rule, and the whole year
unfoldable pub fare_one_of : ℕ → Fields → Result FareRecord TextFault
fare_one_of number fields = do
  _ ← counted number 9 fields
  key ← fare_key_of number fields
  amount ← in_form number 9 (read_amount (field fields 8))
  Ok (fare_with key whole_year amount)

-- FARE in version 2: the first and the last day of its season behind the rule, and then the amount
unfoldable pub fare_two_of : ℕ → Fields → Result FareRecord TextFault
fare_two_of number fields = do
  _ ← counted number 11 fields
  key ← fare_key_of number fields
  first ← in_form number 9 (read_month_day (field fields 8))
  last ← in_form number 10 (read_month_day (field fields 9))
  amount ← in_form number 11 (read_amount (field fields 10))
  Ok (fare_with key (record { first = first; last = last }) amount)

-- FARE
unfoldable pub fare_of : Version → ℕ → Fields → Result FareRecord TextFault
fare_of One number fields = fare_one_of number fields
fare_of Two number fields = fare_two_of number fields
