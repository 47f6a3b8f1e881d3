-- The backhaul minimum of a one way unit.
use Rattle.std.specs.Prelude.{ℕ, ◌+◌, ◌-◌, Option, Some, None, option_and_then, nat_lt, if◌then◌else◌}
use Rattle.fare_codes.specs.declared.nuc.Nuc.{Nuc}
use Rattle.fare_trip.specs.Itinerary.{Itinerary, point}
use Rattle.fare_records.specs.Record.{FareRecord}
use Rattle.fare_tariff.specs.Tariff.{Tariff}
use Rattle.fare_rules.specs.Numbers.{greatest_of}
use Rattle.fare_rules.specs.Span.{stopovers, first_day}
use Rattle.fare_rules.specs.Indicator.{indicator}
use Rattle.fare_rules.specs.Reference.{reference}

-- the reference from the start of a component to a point, on the day of the component's first sector
abbrev pub reference_to : Tariff → Itinerary → ℕ → FareRecord → ℕ → Option Nuc
reference_to tariff trip a fare j =
    reference tariff (point trip a) (point trip j) (indicator tariff trip a j) fare (first_day trip a)

-- the greatest reference from the start of a component to an interior stopover
unfoldable pub greatest_reference : Tariff → Itinerary → ℕ → ℕ → FareRecord → Option Nuc
greatest_reference tariff trip a b fare = greatest_of (reference_to tariff trip a fare) (stopovers trip a b)

-- the minimum of a lower and a higher amount: the higher one and their difference, where it is above the lower one
abbrev pub minimum_above : ℕ → ℕ → Option ℕ
minimum_above low high = if nat_lt low high then Some (high + (high - low)) else None

-- the backhaul minimum: where a reference is above the fare's amount, the greatest one and its difference from the fare
unfoldable pub backhaul : Tariff → Itinerary → ℕ → ℕ → FareRecord → Option Nuc
backhaul tariff trip a b fare =
    option_and_then (minimum_above fare.amount) (greatest_reference tariff trip a b fare)
