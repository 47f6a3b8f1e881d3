-- The first fault of a list, by the place of the first record that has a kind.
use Rattle.std.specs.Prelude.{◌≡◌, ℕ, ◌<◌, Bool, true, false, List, Option, Some, length, position}
use Rattle.std.specs.Prelude.{count_by, nat_le, ◌==◌, ◌&&◌, ◌||◌, take, is_some, option_and_then, slice_get}
use Rattle.std.specs.Prelude.{slice_index_or}
use Rattle.std.specs.List.{position_from, range_with_len}
use Rattle.fare_records.specs.declared.record.Record.{Record}
use Rattle.fare_records.specs.declared.record.Record.TheVariants as filed
use Rattle.fare_tariff.specs.declared.check.check_fault.CheckFault.{CheckFault}
use Rattle.fare_codes.specs.declared.season.Season.{Season}
use Rattle.fare_index.specs.declared.key.Key.{Key}
use Rattle.fare_index.specs.Groups.{Grouped, group_of}
use Rattle.fare_records.specs.declared.limits.TheConstants.{MOST_FARES_BETWEEN}
use Rattle.fare_records.specs.declared.fare_key.FareKey.{FareKey}
use Rattle.fare_tariff.specs.Lookup.{is_fare_between}
use Rattle.fare_tariff.specs.Check.{kind_of, fault_at, first_number, has_key_of, has_same_points, is_fare_over}
use Rattle.fare_tariff.specs.Check.{is_zero_mileage, key_of, names_unknown_city, names_unknown_rule}
use Rattle.fare_tariff.specs.Check.{names_unknown_currency}
use Rattle.fare_records.specs.Keyed.{own_key}
use Rattle.fare_tariff.specs.declared.check.seen.Seen.{Seen}
use Rattle.fare_tariff.specs.Seen.{may_clash}

-- the record at a place has a kind
abbrev pub has_kind_at : List Record → ℕ → Bool
has_kind_at records place = is_some (option_and_then (kind_of records (take place records)) (slice_get records place))

-- the fault of the record at a place, if it has one
abbrev pub fault_of : List Record → ℕ → Option CheckFault
fault_of records place = option_and_then (fault_at records place) (slice_get records place)

-- the first place at which a record has a kind
abbrev pub first_faulty : List Record → Option ℕ
first_faulty records = position_from (has_kind_at records) 0 (range_with_len 0 (length records))

-- one of the earlier fares has a key and overlaps a season, or as many as there may be have its cities and its
-- indicator
abbrev pub clashes : List Record → FareKey → Season → Bool
clashes earlier key season =
    is_some (position (is_fare_over key season) earlier)
    || nat_le MOST_FARES_BETWEEN (count_by (is_fare_between key.from key.to key.ind) earlier)

-- a record clashes with one of the earlier ones: a fare as above, any other where one is of its kind and has its key
abbrev pub clash_of : List Record → Record → Bool
clash_of earlier (filed.Fare r) = clashes earlier (key_of r) r.season
clash_of earlier one = is_some (first_number (has_key_of one) earlier)

-- a record names a city, a rule or a country that isn't filed
abbrev pub names_unknown : List Record → Record → Bool
names_unknown records one =
    names_unknown_city records one || (names_unknown_rule records one || names_unknown_currency records one)

-- one of the tests of a record in the limit is true
abbrev pub is_faulty : List Record → List Record → Record → Bool
is_faulty records earlier one =
    clash_of earlier one || (names_unknown records one || (has_same_points one || is_zero_mileage one))

-- one of the tests of the record at a place in the limit is true, of which that of its clash is asked only where it may
-- clash with those of its group that were passed
abbrev pub is_suspect : List Record → Seen → ℕ → Record → Bool
is_suspect records seen place one =
    (may_clash seen one && clash_of (take place records) one)
    || (names_unknown records one || (has_same_points one || is_zero_mileage one))

-- a record is of the group of a key
abbrev pub is_of : Grouped → Key → Record → Bool
is_of grouped key one = group_of grouped (own_key one) == group_of grouped key

-- no record of the group of a key has a kind
abbrev pub IsClear : List Record → Grouped → Key → Type 0
IsClear records grouped key = (place : ℕ) (d : Record) → place < length records →
    is_of grouped key (slice_index_or records place d) ≡ true → has_kind_at records place ≡ false

-- no record of the group that begins at a place has a kind, where one begins there
abbrev pub IsClearAt : List Record → Grouped → ℕ → Type 0
IsClearAt records grouped place = (d : Record) →
    position_from (is_of grouped (own_key (slice_index_or records place d))) 0 records ≡ Some place →
    IsClear records grouped (own_key (slice_index_or records place d))
