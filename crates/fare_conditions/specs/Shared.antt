-- What is computed once for all fares of a trip: the indicators of all its spans.
use Rattle.std.specs.Prelude.{◌≡◌, ℕ, ◌<◌, ◌≤◌, List, [], slice_index_or}
use Rattle.fare_codes.specs.declared.indicator.Indicator.{Indicator}
use Rattle.fare_trip.specs.Itinerary.{Itinerary, count}
use Rattle.fare_tariff.specs.Tariff.{Tariff}
use Rattle.fare_rules.specs.Indicator.{indicator}
use Rattle.fare_points.specs.Stretch.{indicator_to}

-- the indicator of a span, of the row of the point where it begins
abbrev pub indicator_at : List (List Indicator) → ℕ → ℕ → Indicator
indicator_at rows i j = indicator_to (slice_index_or rows i []) j

-- rows have the indicators of the spans that begin before a point
abbrev pub AreIndicatorsBefore : Tariff → Itinerary → ℕ → List (List Indicator) → Type 0
AreIndicatorsBefore tariff trip past rows =
    (i j : ℕ) → i < past → i < j → j ≤ count trip → indicator_at rows i j ≡ indicator tariff trip i j

-- rows have those of all spans
abbrev pub AreIndicators : Tariff → Itinerary → List (List Indicator) → Type 0
AreIndicators tariff trip rows = AreIndicatorsBefore tariff trip (count trip) rows
