-- What makes a list of records no edition: the check kinds of a record, and the fault of the least record.
use Rattle.std.specs.Prelude.{ℕ, ◌+◌, ◌<◌, ◌≤◌, ◌≡◌, Bool, true, false, List, [], ◌∷◌, length, take, Option, Some, None}
use Rattle.std.specs.Prelude.{is_some, is_none, option_map, position, count_by, Result, Ok, Err, bytes_eq, ◌&&◌}
use Rattle.std.specs.Prelude.{◌==◌, nat_le, nat_lt, if◌then◌else◌}
use Rattle.std.specs.List.{list_any, list_all}
use Rattle.std.specs.Option.{option_or, option_to_list}
use Rattle.fare_codes.specs.declared.city.City.{City}
use Rattle.fare_codes.specs.declared.rule_id.RuleId.{RuleId}
use Rattle.fare_codes.specs.declared.indicator.Indicator.{Indicator}
use Rattle.fare_codes.specs.declared.day.Day.{Day}
use Rattle.fare_codes.specs.declared.season.Season.{Season}
use Rattle.fare_codes.specs.declared.limits.TheConstants.{LAST_EDITION}
use Rattle.fare_codes.specs.Same.{same_indicator, same_season}
use Rattle.fare_records.specs.declared.limits.TheConstants.{MOST_FARES_BETWEEN, MOST_RECORDS}
use Rattle.fare_records.specs.declared.record.Record.{Record}
use Rattle.fare_records.specs.declared.record.Record.TheVariants as filed
use Rattle.fare_records.specs.declared.fare_key.FareKey.{FareKey}
use Rattle.fare_tariff.specs.declared.check.check_kind.CheckKind.{CheckKind}
use Rattle.fare_tariff.specs.declared.check.check_kind.CheckKind.TheVariants.{Duplicate, UnknownCity, UnknownRule}
use Rattle.fare_tariff.specs.declared.check.check_kind.CheckKind.TheVariants.{UnknownCurrency, TooManyFares, SamePoint}
use Rattle.fare_tariff.specs.declared.check.check_kind.CheckKind.TheVariants.{ZeroMileage, OutOfLimit, Overlap}
use Rattle.fare_tariff.specs.declared.check.check_fault.CheckFault.{CheckFault}
use Rattle.fare_tariff.specs.declared.check.check_fault.CheckFault.TheVariants.{At}
use Rattle.fare_records.specs.Record.{FareRecord}
use Rattle.fare_tariff.specs.Tariff.{Tariff}
use Rattle.fare_records.specs.Keyed.{has_amount_in_range}
use Rattle.fare_records.specs.Seasons.{seasons_overlap}
use Rattle.fare_tariff.specs.Lookup.{first_some, city_in, currency_in, has_key, rule_in, mpm_in}
use Rattle.fare_records.specs.Fields.{same_pair, same_via}
use Rattle.fare_tariff.specs.Lookup.{tpm_in, number_at, is_fare_between}

-- the key of a filed fare without its season
abbrev pub key_of : FareRecord → FareKey
key_of fare = record {
  from = fare.from;
  to = fare.to;
  ind = fare.ind;
  carrier = fare.carrier;
  class = fare.class;
  kind = fare.kind;
  rule = fare.rule;
}

-- a record files a fare that has a key and just this season
abbrev pub is_fare_of : FareKey → Season → Record → Bool
is_fare_of key season (filed.Fare r) = has_key key r && same_season r.season season
is_fare_of key season _ = false

-- a record files an extra mileage allowance of an unordered pair, an indicator and a via field
abbrev pub is_allowance_of : City → City → Indicator → Option City → Record → Bool
is_allowance_of a b ind via (filed.Ema r) = same_pair r.from r.to a b && same_indicator r.ind ind && same_via r.via via
is_allowance_of a b ind via _ = false

-- another record is of the same kind and has the same key
abbrev pub has_key_of : Record → Record → Bool
has_key_of (filed.City r) other = is_some (city_in r.code other)
has_key_of (filed.Cur r) other = is_some (currency_in r.country other)
has_key_of (filed.Rule r) other = is_some (rule_in r.id other)
has_key_of (filed.Fare r) other = is_fare_of (key_of r) r.season other
has_key_of (filed.Mpm r) other = is_some (mpm_in r.from r.to r.ind other)
has_key_of (filed.Tpm r) other = is_some (tpm_in r.from r.to other)
has_key_of (filed.Ema r) other = is_allowance_of r.from r.to r.ind r.via other

-- the record number of the first of the earlier records that passes a test
abbrev pub first_number : (Record → Bool) → List Record → Option ℕ
first_number test earlier = option_map number_at (position test earlier)

-- a city has no CITY record
abbrev pub is_unknown_city : List Record → City → Bool
is_unknown_city records city = is_none (first_some (city_in city) records)

-- one of two cities or of a via field has no CITY record
unfoldable pub is_one_unknown : List Record → City → City → Option City → Bool
is_one_unknown records a b via = list_any (is_unknown_city records) (a ∷ b ∷ option_to_list via)

-- a record other than a CITY names a city that has no CITY record
abbrev pub names_unknown_city : List Record → Record → Bool
names_unknown_city records (filed.Fare r) = is_one_unknown records r.from r.to None
names_unknown_city records (filed.Mpm r) = is_one_unknown records r.from r.to None
names_unknown_city records (filed.Tpm r) = is_one_unknown records r.from r.to None
names_unknown_city records (filed.Ema r) = is_one_unknown records r.from r.to r.via
names_unknown_city records _ = false

-- a rule field isn't empty and its rule has no RULE record
abbrev pub is_unknown_rule : List Record → Option RuleId → Bool
is_unknown_rule records None = false
is_unknown_rule records (Some id) = is_none (first_some (rule_in id) records)

-- a record is a fare whose rule isn't filed
abbrev pub names_unknown_rule : List Record → Record → Bool
names_unknown_rule records (filed.Fare r) = is_unknown_rule records r.rule
names_unknown_rule records _ = false

-- a record is a city whose country has no CUR record
abbrev pub names_unknown_currency : List Record → Record → Bool
names_unknown_currency records (filed.City r) = is_none (first_some (currency_in r.country) records)
names_unknown_currency records _ = false

-- as many of the earlier records as there may be are fares with the from, to and indicator of this fare
abbrev pub is_one_too_many : List Record → Record → Bool
is_one_too_many earlier (filed.Fare r) =
    nat_le MOST_FARES_BETWEEN (count_by (is_fare_between r.from r.to r.ind) earlier)
is_one_too_many earlier _ = false

-- a record's two cities are equal
abbrev pub has_same_points : Record → Bool
has_same_points (filed.Fare r) = bytes_eq r.from r.to
has_same_points (filed.Mpm r) = bytes_eq r.from r.to
has_same_points (filed.Tpm r) = bytes_eq r.from r.to
has_same_points (filed.Ema r) = bytes_eq r.from r.to
has_same_points _ = false

-- a record states a mileage of 0
abbrev pub is_zero_mileage : Record → Bool
is_zero_mileage (filed.Mpm r) = r.miles == 0
is_zero_mileage (filed.Tpm r) = r.miles == 0
is_zero_mileage (filed.Ema r) = r.miles == 0
is_zero_mileage _ = false

-- a record that has these before it has a number above the last that one may have, which is one above the most records
abbrev pub is_out_of_limit : List Record → Bool
is_out_of_limit earlier = nat_lt (MOST_RECORDS + 1) (number_at (length earlier))

-- a record files a fare that has a key and whose season overlaps a season
abbrev pub is_fare_over : FareKey → Season → Record → Bool
is_fare_over key season (filed.Fare r) = has_key key r && seasons_overlap r.season season
is_fare_over key season _ = false

-- the number of the first of the earlier fares with this fare's key whose season overlaps its season
abbrev pub overlap_of : List Record → Record → Option ℕ
overlap_of earlier (filed.Fare r) = first_number (is_fare_over (key_of r) r.season) earlier
overlap_of earlier _ = None

-- a kind, where a test says that it is there
abbrev pub kind_where : Bool → CheckKind → Option CheckKind
kind_where there kind = if there then Some kind else None

-- the least check kind of a record of a list that has these before it
unfoldable pub kind_of : List Record → List Record → Record → Option CheckKind
kind_of records earlier one =
    option_or (option_map Duplicate (first_number (has_key_of one) earlier))
    (option_or (kind_where (names_unknown_city records one) UnknownCity)
    (option_or (kind_where (names_unknown_rule records one) UnknownRule)
    (option_or (kind_where (names_unknown_currency records one) UnknownCurrency)
    (option_or (kind_where (is_one_too_many earlier one) TooManyFares)
    (option_or (kind_where (has_same_points one) SamePoint)
    (option_or (kind_where (is_zero_mileage one) ZeroMileage)
    (option_or (kind_where (is_out_of_limit earlier) OutOfLimit)
    (option_map Overlap (overlap_of earlier one)))))))))

-- the fault of the record at a place, if it has a kind
abbrev pub fault_at : List Record → ℕ → Record → Option CheckFault
fault_at records place one = option_map (At (number_at place)) (kind_of records (take place records) one)

-- the fault of the least record that has one, of the rest of a list from a place on
unfoldable pub first_fault_from : List Record → ℕ → List Record → Option CheckFault
first_fault_from records place [] = None
first_fault_from records place (one ∷ rest) =
    option_or (fault_at records place one) (first_fault_from records (place + 1) rest)

-- the fault of the least record that has one
abbrev pub first_fault : List Record → Option CheckFault
first_fault records = first_fault_from records 0 records

-- a value, unless there is a fault
abbrev pub unless : {A : Type 0} → Option CheckFault → A → Result A CheckFault
unless None value = Ok value
unless (Some fault) value = Err fault

-- what the check of a list of records answers: the fault of the least record, else the edition with just these records
abbrev pub check_edition : ℕ → Day → List Record → Result Tariff CheckFault
check_edition number effective records =
    unless (first_fault records) (record { number = number; effective = effective; records = records })

-- an edition's number is 1 to the last one, each fare's amount is in its range, and no record of it has a check kind
pub record IsEdition (number : ℕ) (records : List Record) : Type 0 where
  pub number_above_zero : 0 < number
  pub number_in_range : number ≤ LAST_EDITION
  pub amounts_in_range : list_all has_amount_in_range records ≡ true
  pub no_fault : is_none (first_fault records) ≡ true
