-- The look-ups of an edition: each searches its one list of records.
use Rattle.std.specs.Prelude.{ℕ, ◌+◌, ◌-◌, Bool, true, false, List, [], ◌∷◌, Option, Some, None, option_map, drop}
use Rattle.std.specs.Prelude.{option_and_then, position, slice_get, bytes_eq, ◌&&◌, nat_le, max, if◌then◌else◌}
use Rattle.std.specs.List.{list_any, position_from}
use Rattle.std.specs.Option.{option_or}
use Rattle.fare_codes.specs.declared.city.City.{City}
use Rattle.fare_codes.specs.declared.country.Country.{Country}
use Rattle.fare_codes.specs.declared.rule_id.RuleId.{RuleId}
use Rattle.fare_codes.specs.declared.month_day.MonthDay.{MonthDay}
use Rattle.fare_codes.specs.declared.indicator.Indicator.{Indicator}
use Rattle.fare_codes.specs.Same.{same_indicator, same_cabin, same_kind}
use Rattle.fare_codes.specs.Season.{season_holds}
use Rattle.fare_records.specs.declared.limits.TheConstants.{MOST_STOPS, MOST_TRANSFERS}
use Rattle.fare_records.specs.declared.record.Record.{Record}
use Rattle.fare_records.specs.declared.record.Record.TheVariants as filed
use Rattle.fare_records.specs.declared.city_record.CityRec.{CityRec}
use Rattle.fare_records.specs.declared.names.Names.{Names}
use Rattle.fare_records.specs.declared.names.Names.TheVariants.{All, Of}
use Rattle.fare_records.specs.declared.terms.Terms.{Terms}
use Rattle.fare_records.specs.declared.fare_key.FareKey.{FareKey}
use Rattle.fare_records.specs.Record.{CurrencyRecord, RuleRecord, FareRecord}
use Rattle.fare_tariff.specs.Tariff.{Tariff}
use Rattle.fare_records.specs.Fields.{same_pair, same_rule}

-- the first answer that a record of a list gives
abbrev pub first_some : {A : Type 0} → (Record → Option A) → List Record → Option A
first_some answer [] = None
first_some answer (one ∷ records) = option_or (answer one) (first_some answer records)

-- the city that a record files, where it is this one
abbrev pub city_in : City → Record → Option CityRec
city_in city (filed.City r) = if bytes_eq r.code city then Some r else None
city_in city _ = None

-- the record of a city
abbrev pub city_record : Tariff → City → Option CityRec
city_record tariff city = first_some (city_in city) tariff.records

-- the currency that a record files, where it is that of this country
abbrev pub currency_in : Country → Record → Option CurrencyRecord
currency_in country (filed.Cur r) = if bytes_eq r.country country then Some r else None
currency_in country _ = None

-- the currency of a country
abbrev pub currency_of : Tariff → Country → Option CurrencyRecord
currency_of tariff country = first_some (currency_in country) tariff.records

-- the fare that a record files, if any
abbrev pub fare_in : Record → Option FareRecord
fare_in (filed.Fare r) = Some r
fare_in _ = None

-- a fare has a key
abbrev pub has_key : FareKey → FareRecord → Bool
has_key key fare =
    bytes_eq fare.from key.from && bytes_eq fare.to key.to && same_indicator fare.ind key.ind
    && bytes_eq fare.carrier key.carrier && same_cabin fare.class key.class && same_kind fare.kind key.kind
    && same_rule fare.rule key.rule

-- a record files a fare that has a key and whose season holds a day
abbrev pub is_fare_on : FareKey → MonthDay → Record → Bool
is_fare_on key on (filed.Fare r) = has_key key r && season_holds r.season on
is_fare_on key on _ = false

-- the number of a record by its place in the list, from 0: HEAD is record 1
abbrev pub number_at : ℕ → ℕ
number_at place = place + 2

-- the record number of the fare of a key on a day
abbrev pub fare_number : Tariff → FareKey → MonthDay → Option ℕ
fare_number tariff key on = option_map number_at (position (is_fare_on key on) tariff.records)

-- the fare that the record of a number files
abbrev pub fare_at : Tariff → ℕ → Option FareRecord
fare_at tariff number =
    if nat_le 2 number then option_and_then fare_in (slice_get tariff.records (number - 2)) else None

-- a record files a fare from a city to another for an indicator
abbrev pub is_fare_between : City → City → Indicator → Record → Bool
is_fare_between from to ind (filed.Fare r) = bytes_eq r.from from && bytes_eq r.to to && same_indicator r.ind ind
is_fare_between from to ind _ = false

-- the numbers of the records that pass a test, of a list that begins at a number
abbrev pub numbers_from : (Record → Bool) → ℕ → List Record → List ℕ
numbers_from test number [] = []
numbers_from test number (one ∷ records) =
    if test one then (number ∷ numbers_from test (number + 1) records) else numbers_from test (number + 1) records

-- the record number of the k-th fare, from 0, of a city, another and an indicator
abbrev pub nth_fare : Tariff → City → City → Indicator → ℕ → Option ℕ
nth_fare tariff from to ind k = slice_get (numbers_from (is_fare_between from to ind) 2 tariff.records) k

-- the number of the first record behind that of a number which files a fare with the cities and the indicator of a fare
abbrev pub next_beside : Tariff → ℕ → FareRecord → Option ℕ
next_beside tariff number fare =
    position_from (is_fare_between fare.from fare.to fare.ind) (number + 1) (drop (number - 1) tariff.records)

-- the record number of the next fare behind that of a number with its cities and its indicator
abbrev pub next_fare : Tariff → ℕ → Option ℕ
next_fare tariff number = option_and_then (next_beside tariff number) (fare_at tariff number)

-- the rule that a record files, where it is this one
abbrev pub rule_in : RuleId → Record → Option RuleRecord
rule_in id (filed.Rule r) = if bytes_eq r.id id then Some r else None
rule_in id _ = None

-- the rule that a record files, if any
abbrev pub rule_of : Record → Option RuleRecord
rule_of (filed.Rule r) = Some r
rule_of _ = None

-- the record of a rule
abbrev pub rule_record : Tariff → RuleId → Option RuleRecord
rule_record tariff id = first_some (rule_in id) tariff.records

-- the terms of the free rule: no limits, and a surcharge is allowed
abbrev pub free_terms : Terms
free_terms = record {
  stops = MOST_STOPS;
  transfers = MOST_TRANSFERS;
  advance = 0;
  min_stay = 0;
  max_stay = 4_294_967_295;
  excess = true;
}

-- the terms that a rule's record states
abbrev pub terms_of : RuleRecord → Terms
terms_of r = record {
  stops = r.stops;
  transfers = r.transfers;
  advance = r.advance;
  min_stay = r.min_stay;
  max_stay = r.max_stay;
  excess = r.excess;
}

-- the terms of a rule field
abbrev pub terms : Tariff → Option RuleId → Option Terms
terms tariff None = Some free_terms
terms tariff (Some id) = option_map terms_of (rule_record tariff id)

-- a list of names lists a rule; `*` lists all
abbrev pub lists : Names → Option RuleId → Bool
lists All rule = true
lists (Of names) rule = list_any (same_rule rule) names

-- the list of rules that a rule may share a pricing unit with
abbrev pub unit_names : Tariff → Option RuleId → Option Names
unit_names tariff None = Some All
unit_names tariff (Some id) = option_map (λ r. r.units) (rule_record tariff id)

-- the list of rules that a rule may be combined with end on end
abbrev pub end_names : Tariff → Option RuleId → Option Names
end_names tariff None = Some All
end_names tariff (Some id) = option_map (λ r. r.ends) (rule_record tariff id)

-- a list of names, where there is one, lists a rule
abbrev pub lists_in : Option Names → Option RuleId → Bool
lists_in None rule = false
lists_in (Some names) rule = lists names rule

-- two fares are combinable in a unit where each one's rule lists the other's
abbrev pub unit_ok : Tariff → Option RuleId → Option RuleId → Bool
unit_ok tariff a b = lists_in (unit_names tariff a) b && lists_in (unit_names tariff b) a

-- two fares are combinable end on end where each one's rule lists the other's
abbrev pub ends_ok : Tariff → Option RuleId → Option RuleId → Bool
ends_ok tariff a b = lists_in (end_names tariff a) b && lists_in (end_names tariff b) a

-- the miles that a record permits between two cities for an indicator
abbrev pub mpm_in : City → City → Indicator → Record → Option ℕ
mpm_in a b ind (filed.Mpm r) = if same_pair r.from r.to a b && same_indicator r.ind ind then Some r.miles else None
mpm_in a b ind _ = None

-- the maximum permitted mileage of an unordered pair of cities and an indicator
abbrev pub mpm : Tariff → City → City → Indicator → Option ℕ
mpm tariff a b ind = first_some (mpm_in a b ind) tariff.records

-- the ticketed point miles that a record files between two cities
abbrev pub tpm_in : City → City → Record → Option ℕ
tpm_in a b (filed.Tpm r) = if same_pair r.from r.to a b then Some r.miles else None
tpm_in a b _ = None

-- the ticketed point mileage of an unordered pair of cities
abbrev pub tpm : Tariff → City → City → Option ℕ
tpm tariff a b = first_some (tpm_in a b) tariff.records

-- a via city is empty or one of some cities
abbrev pub is_by_way_of : List City → Option City → Bool
is_by_way_of cities None = true
is_by_way_of cities (Some via) = list_any (bytes_eq via) cities

-- the extra miles that a record allows between two cities for an indicator by way of some cities, else 0
abbrev pub allowance_in : City → City → Indicator → List City → Record → ℕ
allowance_in a b ind cities (filed.Ema r) =
    if same_pair r.from r.to a b && same_indicator r.ind ind && is_by_way_of cities r.via then r.miles else 0
allowance_in a b ind cities _ = 0

-- the greatest number that a record of a list gives, 0 for none
abbrev pub greatest : (Record → ℕ) → List Record → ℕ
greatest measure [] = 0
greatest measure (one ∷ records) = max (measure one) (greatest measure records)

-- the greatest extra mileage allowance of an unordered pair of cities and an indicator that is filed for every way or
-- by way of one of some cities
abbrev pub allowance : Tariff → City → City → Indicator → List City → ℕ
allowance tariff a b ind cities = greatest (allowance_in a b ind cities) tariff.records
