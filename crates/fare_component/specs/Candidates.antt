-- The fares that may serve a span by their cities and its indicator, walked in record order.
use Rattle.std.specs.Prelude.{◌≡◌, ℕ, ◌+◌, ◌<◌, ◌≤◌, Bool, false, length, Option, Some, None, IfSome, OnSome, min}
use Rattle.std.specs.Prelude.{slice_get, unwrap_or}
use Rattle.fare_codes.specs.declared.city.City.{City}
use Rattle.fare_codes.specs.declared.indicator.Indicator.{Indicator}
use Rattle.fare_records.specs.declared.limits.TheConstants.{MOST_FARES_BETWEEN}
use Rattle.fare_records.specs.declared.record.Record.{Record}
use Rattle.fare_tariff.specs.Tariff.{Tariff}
use Rattle.fare_tariff.specs.Lookup.{is_fare_between, nth_fare, number_at}
use Rattle.fare_component.specs.declared.table.cursor.Cursor.{Cursor}
use Rattle.fare_component.specs.declared.table.candidates.Candidates.{Candidates}

-- there is a record and it passes a test
abbrev pub holds_at : (Record → Bool) → Option Record → Bool
holds_at test None = false
holds_at test (Some one) = test one

-- the record at a place files a fare from a city to another for an indicator
abbrev pub files_at : Tariff → City → City → Indicator → ℕ → Bool
files_at tariff from to ind place = holds_at (is_fare_between from to ind) (slice_get tariff.records place)

-- a cursor over the fares from a city to another for an indicator stands at a number: the fare that it shows next has
-- this number or a later one, and between the two there is no other
pub record StandsAt (tariff : Tariff) (from to : City) (ind : Indicator) (number : ℕ) (cursor : Cursor) : Type 0 where
  pub next : cursor.next ≡ nth_fare tariff from to ind cursor.place
  pub few : cursor.place ≤ MOST_FARES_BETWEEN
  pub more : OnSome cursor.next (cursor.place < MOST_FARES_BETWEEN)
  pub ahead : IfSome cursor.next (λ shown. number ≤ shown)
  pub none_between : (place : ℕ) → number ≤ number_at place → IfSome cursor.next (λ shown. number_at place < shown)
      → files_at tariff from to ind place ≡ false

-- the lesser of two numbers, where there is one
abbrev pub lesser : Option ℕ → Option ℕ → Option ℕ
lesser None b = b
lesser (Some a) None = Some a
lesser (Some a) (Some b) = Some (min a b)

-- the number of the first candidate that is still to come
abbrev pub first_of : Candidates → Option ℕ
first_of candidates = lesser candidates.out.next candidates.back.next

-- how many fares were passed
abbrev pub passed : Candidates → ℕ
passed candidates = candidates.out.place + candidates.back.place

-- both cursors stand at a number, one over the fares from a city to another and one over those the other way
pub record StandAt (tariff : Tariff) (from to : City) (ind : Indicator) (number : ℕ) (candidates : Candidates) :
    Type 0 where
  pub out : StandsAt tariff from to ind number candidates.out
  pub back : StandsAt tariff to from ind number candidates.back

-- the number that the candidates have come to: that of the first that is still to come, else the one past all records
abbrev pub reached : Tariff → Candidates → ℕ
reached tariff candidates = unwrap_or (first_of candidates) (number_at (length tariff.records))
