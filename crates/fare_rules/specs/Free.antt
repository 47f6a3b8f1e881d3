-- Fares of the free rule that are filed for the whole year: what is left to ask of them.
use Rattle.std.specs.Prelude.{ℕ, Bool, not, ◌&&◌}
use Rattle.fare_trip.specs.Itinerary.{Itinerary}
use Rattle.fare_records.specs.Record.{FareRecord}
use Rattle.fare_tariff.specs.Tariff.{Tariff}
use Rattle.fare_rules.specs.Span.{holds_surface}
use Rattle.fare_rules.specs.ComponentAmount.{repeats_city, runs_between, may_be_priced, has_indicator, covers_cabins}
use Rattle.fare_rules.specs.ComponentAmount.{covers_carriers, mileage_holds}

-- a fare without a rule and a season may be used for a span: there is no surface sector and no city twice, its cities,
-- its indicator, its class and its carrier are those of the span, and the miles are not over
abbrev pub is_applicable_freely : Tariff → Itinerary → ℕ → ℕ → Bool → FareRecord → Bool
is_applicable_freely tariff trip a b back fare =
    not (holds_surface trip a b) && not (repeats_city trip a b)
    && runs_between trip a b back fare && may_be_priced back fare
    && has_indicator tariff trip a b fare && covers_cabins trip a b fare && covers_carriers trip a b fare
    && mileage_holds tariff trip a b
