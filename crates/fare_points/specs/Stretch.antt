-- The sectors of a trip from a point on, and the indicators of the spans that they make.
use Rattle.std.specs.Prelude.{◌≡◌, ℕ, ◌<◌, List, slice_index_or}
use Rattle.std.specs.List.{list_any, list_all}
use Rattle.fare_codes.specs.declared.indicator.Indicator.{Indicator}
use Rattle.fare_codes.specs.declared.indicator.Indicator.TheVariants.{WH}
use Rattle.fare_trip.specs.Itinerary.{Itinerary, point}
use Rattle.fare_tariff.specs.Tariff.{Tariff}
use Rattle.fare_rules.specs.Span.{sectors}
use Rattle.fare_rules.specs.Indicator.{area, crosses_atlantic, crosses_pacific, is_within_one, indicator}
use Rattle.fare_points.specs.declared.stretch.Stretch.{Stretch}

-- a stretch is that of the sectors from a point to another: it has met the oceans that one of them crosses, it is
-- within area 1 where each of them is, and its area is that of the point which they reach
pub record IsStretch (tariff : Tariff) (trip : Itinerary) (a b : ℕ) (stretch : Stretch) : Type 0 where
  pub atlantic : stretch.met.atlantic ≡ list_any (crosses_atlantic tariff trip) (sectors a b)
  pub pacific : stretch.met.pacific ≡ list_any (crosses_pacific tariff trip) (sectors a b)
  pub within_one : stretch.met.within_one ≡ list_all (is_within_one tariff trip) (sectors a b)
  pub area : stretch.area ≡ area tariff (point trip b)

-- the indicator of a row at the point where a span ends
abbrev pub indicator_to : List Indicator → ℕ → Indicator
indicator_to row j = slice_index_or row j WH

-- a row has the indicators of the spans from a point that end before another
abbrev pub AreIndicatorsFrom : Tariff → Itinerary → ℕ → ℕ → List Indicator → Type 0
AreIndicatorsFrom tariff trip i past row = (j : ℕ) → i < j → j < past → indicator_to row j ≡ indicator tariff trip i j
