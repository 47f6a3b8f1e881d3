-- Owed: what a unit of two parts that closes costs at least behind its first part. A round trip costs as much again, and
-- a circle trip no less than twice the reference from its origin to where its first part ends.
use Rattle.std.specs.Prelude.{◌≡◌, ℕ, ◌-◌, ◌*◌, ◌<◌, ◌≤◌, true, Option, Some, None, Contains, min, option_and_then, option_map}
use Rattle.fare_codes.specs.declared.nuc.Nuc.{Nuc}
use Rattle.fare_trip.specs.Itinerary.{Itinerary, count, point}
use Rattle.fare_tariff.specs.Record.{FareRecord}
use Rattle.fare_tariff.specs.Tariff.{Tariff}
use Rattle.fare_tariff.specs.Lookup.{fare_at}
use Rattle.fare_rules.specs.Indicator.{indicator}
use Rattle.fare_rules.specs.Reference.{reference}
use Rattle.fare_rules.specs.Span.{first_day}
use Rattle.fare_component.specs.declared.table.entry.Entry.{Entry}
use Rattle.fare_component.specs.Table.{entries_of}
use Rattle.fare_legs.specs.Costs.{IsUpTo, first_cost, is_same_city}

-- the reference for a fare from the city where a span begins to the one where it ends
abbrev pub reference_of : Tariff → Itinerary → ℕ → ℕ → FareRecord → Option Nuc
reference_of tariff trip a b fare =
    reference tariff (point trip a) (point trip b) (indicator tariff trip a b) fare (first_day trip a)

-- the same for the fare of a record number
abbrev pub reference_over : Tariff → Itinerary → ℕ → ℕ → ℕ → Option Nuc
reference_over tariff trip a b number = option_and_then (reference_of tariff trip a b) (fare_at tariff number)

-- what a unit owes behind a first part that costs so much: as much again, or what twice the reference to where it ends
-- is above it, whichever is less
abbrev pub owed_above : ℕ → Option Nuc → ℕ
owed_above out None = 0
owed_above out (Some amount) = min out (2 * amount - out)

-- what a unit owes behind a first part with an entry of a span; nothing where that cannot be one
abbrev pub owed_by : Tariff → Itinerary → ℕ → ℕ → Entry → Option ℕ
owed_by tariff trip a b entry =
    option_map (λ out. owed_above out (reference_over tariff trip a b entry.fare)) (first_cost entry)

-- a unit that closes at a point owes so much behind its first part, which ends at another: it began in the city where
-- it closes, with one of the entries of the span from there
pub record IsOwed (tariff : Tariff) (trip : Itinerary) (stand home owed : ℕ) : Type 0 where
  pub start : ℕ
  pub rises : start < stand
  pub city : is_same_city trip start home ≡ true
  pub entry : Entry
  pub there : Contains (entries_of tariff trip start stand) entry
  pub owes : owed_by tariff trip start stand entry ≡ Some owed

-- numbers are under what a unit owes behind a first part that ends at a point, by the points where it closes
abbrev pub AreOwed : Tariff → Itinerary → ℕ → (ℕ → Option ℕ) → Type 0
AreOwed tariff trip stand row =
    (home owed : ℕ) → stand < home → home ≤ count trip → IsOwed tariff trip stand home owed → IsUpTo owed (row home)
