-- The records that a walk over a group of them has passed.
use Rattle.std.specs.Prelude.{ℕ, ◌+◌, ◌%◌, Bool, true, false, List, Option, Some, None, codes, bytes_eq, ◌||◌, ◌&&◌, nat_le}
use Rattle.std.specs.Prelude.{nat_lt, replicate, slice_index_or, slice_set, if◌then◌else◌}
use Rattle.fare_codes.specs.declared.rule_id.RuleId.{RuleId}
use Rattle.fare_codes.specs.declared.cabin.Cabin.{Cabin}
use Rattle.fare_codes.specs.declared.cabin.Cabin.TheVariants.{F, C, Y}
use Rattle.fare_codes.specs.declared.kind.Kind.{Kind}
use Rattle.fare_codes.specs.declared.kind.Kind.TheVariants.{OW, HR}
use Rattle.fare_records.specs.declared.limits.TheConstants.{MOST_FARES_BETWEEN}
use Rattle.fare_tariff.specs.declared.check.seen.Seen.{Seen}
use Rattle.fare_tariff.specs.declared.check.seen.TheConstants.{BUCKETS}
use Rattle.fare_records.specs.declared.record.Record.{Record}
use Rattle.fare_records.specs.declared.record.Record.TheVariants as filed
use Rattle.fare_records.specs.declared.fare_key.FareKey.{FareKey}
use Rattle.fare_records.specs.Record.{FareRecord}
use Rattle.fare_tariff.specs.Check.{key_of}
use Rattle.fare_records.specs.Keyed.{own_key}
use Rattle.fare_records.specs.Spelling.{spelled_city, spelled_rule}
use Rattle.fare_codes.specs.declared.city.City.{City}
use Rattle.fare_index.specs.declared.key.Key.{Key}
use Rattle.fare_index.specs.declared.key.Key.TheVariants as kind

-- a number for a rule field
abbrev pub rule_number : Option RuleId → ℕ
rule_number None = 0
rule_number (Some id) = spelled_rule id % BUCKETS

-- a number for each class
abbrev pub class_number : Cabin → ℕ
class_number F = 0
class_number C = 16
class_number Y = 32

-- a number for each kind of fare, and whether it is of every carrier
abbrev pub kind_number : Kind → Bool → ℕ
kind_number OW true = 0
kind_number OW false = 4
kind_number HR true = 8
kind_number HR false = 12

-- the bucket of the fares with a key
abbrev pub bucket_of_key : FareKey → ℕ
bucket_of_key key =
    (rule_number key.rule + class_number key.class + kind_number key.kind (bytes_eq key.carrier (codes "YY"))) % BUCKETS

-- the bucket of a fare
abbrev pub bucket_of : FareRecord → ℕ
bucket_of fare = bucket_of_key (key_of fare)

-- the bucket of two cities, in either order
abbrev pub bucket_of_pair : City → City → ℕ
bucket_of_pair a b = (spelled_city a % BUCKETS + spelled_city b % BUCKETS) % BUCKETS

-- the bucket of the records other than fares with a key
abbrev pub bucket_of_own : Key → ℕ
bucket_of_own (kind.City city) = spelled_city city % BUCKETS
bucket_of_own (kind.Rule id) = spelled_rule id % BUCKETS
bucket_of_own (kind.Permitted a b ind) = bucket_of_pair a b
bucket_of_own (kind.Ticketed a b) = bucket_of_pair a b
bucket_of_own (kind.Extra a b ind via) = bucket_of_pair a b
bucket_of_own _ = 0

-- the bucket of a record
abbrev pub bucket_of_record : Record → ℕ
bucket_of_record (filed.Fare r) = bucket_of r
bucket_of_record one = bucket_of_own (own_key one)

-- none was passed
abbrev pub none_seen : Seen
none_seen = record { count = 0; buckets = replicate BUCKETS false }

-- a record may clash with some that were passed
abbrev pub may_clash_some : Seen → Record → Bool
may_clash_some seen (filed.Fare r) =
    nat_le MOST_FARES_BETWEEN seen.count || slice_index_or seen.buckets (bucket_of r) false
may_clash_some seen one = slice_index_or seen.buckets (bucket_of_record one) false

-- some were passed, and a record may clash with them
abbrev pub may_clash : Seen → Record → Bool
may_clash seen one = nat_lt 0 seen.count && may_clash_some seen one

-- the buckets, with that of a record
abbrev pub marked : List Bool → Record → List Bool
marked buckets one = slice_set buckets (bucket_of_record one) true

-- one more was passed
abbrev pub noted : Seen → Record → Seen
noted seen one = record {
  count = if nat_lt seen.count MOST_FARES_BETWEEN then seen.count + 1 else seen.count;
  buckets = marked seen.buckets one;
}
