-- The keys by which the records of a list are found.
use Rattle.std.specs.Prelude.{◌≡◌, ◌<◌, ℕ, Bool, true, List, Option, Some, None, length, nat_lt, slice_get}
use Rattle.std.specs.Prelude.{slice_index_or, if◌then◌else◌}
use Rattle.fare_codes.specs.declared.nuc.TheConstants.{FARE_LIMIT}
use Rattle.fare_index.specs.declared.key.Key.{Key}
use Rattle.fare_index.specs.declared.key.Key.TheVariants as kind
use Rattle.fare_index.specs.Key.{same_key}
use Rattle.fare_index.specs.Pairs.{permitted_key, ticketed_key, extra_key}
use Rattle.fare_records.specs.declared.record.Record.{Record}
use Rattle.fare_records.specs.declared.record.Record.TheVariants as filed

-- a fare that a record files is below 10,000,000.00
abbrev pub has_amount_in_range : Record → Bool
has_amount_in_range (filed.Fare r) = nat_lt r.amount FARE_LIMIT
has_amount_in_range _ = true

-- the key of a record: that of a fare is its from, to and indicator, and a pair of miles is unordered
abbrev pub own_key : Record → Key
own_key (filed.City r) = kind.City r.code
own_key (filed.Cur r) = kind.Currency r.country
own_key (filed.Rule r) = kind.Rule r.id
own_key (filed.Fare r) = kind.Fares r.from r.to r.ind
own_key (filed.Mpm r) = permitted_key r.from r.to r.ind
own_key (filed.Tpm r) = ticketed_key r.from r.to
own_key (filed.Ema r) = extra_key r.from r.to r.ind r.via

-- a record has a key
abbrev pub has_own_key : Key → Record → Bool
has_own_key key one = same_key key (own_key one)

-- the extra miles that a record allows, where it has a key, else 0
abbrev pub extra_miles : Key → Record → ℕ
extra_miles key (filed.Ema r) = if same_key key (extra_key r.from r.to r.ind r.via) then r.miles else 0
extra_miles key _ = 0

-- a place, if it stands before another
abbrev pub before : ℕ → Option ℕ → Option ℕ
before place None = None
before place (Some first) = if nat_lt first place then Some first else None

-- a record stands at a place of a list
abbrev pub IsAmong : List Record → Record → Type 0
IsAmong records one = (place : ℕ) × (slice_get records place ≡ Some one)

-- the record at a place of a list is there and has a key
pub record HasKeyAt (records : List Record) (place : ℕ) (key : Key) : Type 0 where
  pub within : place < length records
  pub own : (d : Record) → own_key (slice_index_or records place d) ≡ key
