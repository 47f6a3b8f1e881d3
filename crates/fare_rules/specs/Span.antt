-- Spans of a trip: a span from a point to a later one, its sectors and its interior points.
use Rattle.std.specs.Prelude.{ℕ, ◌+◌, Bool, not, List, map, filter, Option, find, option_map, is_none}
use Rattle.std.specs.List.{list_any}
use Rattle.fare_codes.specs.declared.city.City.{City}
use Rattle.fare_codes.specs.declared.day.Day.{Day}
use Rattle.fare_trip.specs.Itinerary.{Itinerary, count, sector, point}
use Rattle.fare_tariff.specs.Lookup.{city_record}
use Rattle.fare_tariff.specs.Tariff.{Tariff}
use Rattle.fare_rules.specs.Numbers.{numbers}

-- a span from point a to point b has the sectors a + 1 to b
abbrev pub sectors : ℕ → ℕ → List ℕ
sectors a b = numbers (a + 1) (b + 1)

-- its interior points are those strictly between
abbrev pub interior : ℕ → ℕ → List ℕ
interior a b = numbers (a + 1) b

-- a point is a stopover where the sector that reaches it says so
abbrev pub is_stopover : Itinerary → ℕ → Bool
is_stopover trip i = (sector trip i).stop

-- and else it is a transfer
abbrev pub is_transfer : Itinerary → ℕ → Bool
is_transfer trip i = not (is_stopover trip i)

-- the interior stopovers of a span
abbrev pub stopovers : Itinerary → ℕ → ℕ → List ℕ
stopovers trip a b = filter (is_stopover trip) (interior a b)

-- the interior transfers of a span
abbrev pub transfers : Itinerary → ℕ → ℕ → List ℕ
transfers trip a b = filter (is_transfer trip) (interior a b)

-- the cities of the interior points of a span
abbrev pub interior_cities : Itinerary → ℕ → ℕ → List City
interior_cities trip a b = map (point trip) (interior a b)

-- the day of the first sector of what begins at a point
abbrev pub first_day : Itinerary → ℕ → Day
first_day trip a = (sector trip (a + 1)).day

-- a sector is a surface sector, which the traveller makes by own means
abbrev pub is_surface : Itinerary → ℕ → Bool
is_surface trip number = (sector trip number).surface

-- a span holds a surface sector
abbrev pub holds_surface : Itinerary → ℕ → ℕ → Bool
holds_surface trip a b = list_any (is_surface trip) (sectors a b)

-- an edition has no record of the city of a point
abbrev pub is_unplaced : Tariff → Itinerary → ℕ → Bool
is_unplaced tariff trip i = is_none (city_record tariff (point trip i))

-- the city of the first point that has no record in an edition
unfoldable pub placed : Tariff → Itinerary → Option City
placed tariff trip = option_map (point trip) (find (is_unplaced tariff trip) (numbers 0 (count trip + 1)))
