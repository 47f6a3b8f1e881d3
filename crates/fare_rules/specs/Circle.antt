-- The circle minimum of a unit of half round trips.
use Rattle.std.specs.Prelude.{ℕ, ◌+◌, ◌*◌, Bool, List, [], ◌∷◌, ◌++◌, Option, option_map, option_and_then, filter}
use Rattle.std.specs.Prelude.{nat_le, nat_lt, ◌==◌, ◌&&◌, if◌then◌else◌}
use Rattle.std.specs.List.{list_any}
use Rattle.fare_codes.specs.declared.nuc.Nuc.{Nuc}
use Rattle.fare_trip.specs.Itinerary.{Itinerary, point}
use Rattle.fare_records.specs.Record.{FareRecord}
use Rattle.fare_tariff.specs.Tariff.{Tariff}
use Rattle.fare_rules.specs.declared.part.Part.{Part}
use Rattle.fare_rules.specs.Numbers.{numbers, greatest_of}
use Rattle.fare_rules.specs.Span.{stopovers, first_day}
use Rattle.fare_rules.specs.Indicator.{indicator_of}
use Rattle.fare_rules.specs.Reference.{reference}
use Rattle.fare_rules.specs.Construction.{start_of, end_of, fare_of, origin, last_of}

-- a part holds a sector
abbrev pub holds_sector : Itinerary → List Part → ℕ → ℕ → Bool
holds_sector trip parts number k = nat_lt (start_of trip parts k) number && nat_le number (end_of parts k)

-- a sector is one of a unit's own
abbrev pub is_own_sector : Itinerary → List Part → List ℕ → ℕ → Bool
is_own_sector trip parts own number = list_any (holds_sector trip parts number) own

-- a unit's own sectors up to a point
unfoldable pub own_sectors : Itinerary → List Part → List ℕ → ℕ → List ℕ
own_sectors trip parts own i = filter (is_own_sector trip parts own) (numbers 1 (i + 1))

-- the reference from a unit's origin to a point of one of its parts, for the fare of that part: its indicator is that
-- of the unit's own sectors up to the point, and its day that of the first sector of the part
abbrev pub reference_from_origin : Tariff → Itinerary → List Part → List ℕ → ℕ → ℕ → FareRecord → Option Nuc
reference_from_origin tariff trip parts own k i fare =
    reference tariff (origin trip parts own) (point trip i) (indicator_of tariff trip (own_sectors trip parts own i))
    fare (first_day trip (start_of trip parts k))

-- the reference from a unit's origin to a point of a part
unfoldable pub circle_reference : Tariff → Itinerary → List Part → List ℕ → ℕ → ℕ → Option Nuc
circle_reference tariff trip parts own k i =
    option_and_then (reference_from_origin tariff trip parts own k i) (fare_of tariff parts k)

-- the interior stopovers of a part
abbrev pub part_stopovers : Itinerary → List Part → ℕ → List ℕ
part_stopovers trip parts k = stopovers trip (start_of trip parts k) (end_of parts k)

-- the interior stopovers of a part, and its end
abbrev pub part_points : Itinerary → List Part → ℕ → List ℕ
part_points trip parts k = part_stopovers trip parts k ++ end_of parts k ∷ []

-- the stopover points of a circle trip in a part: its interior stopovers, and its end but where it is the unit's last
-- part
abbrev pub turning_points : Itinerary → List Part → List ℕ → ℕ → List ℕ
turning_points trip parts own k = if k == last_of own then part_stopovers trip parts k else part_points trip parts k

-- twice an amount
abbrev pub twice : ℕ → ℕ
twice amount = 2 * amount

-- the greatest reference to a stopover point in a part
abbrev pub greatest_turning : Tariff → Itinerary → List Part → List ℕ → ℕ → Option Nuc
greatest_turning tariff trip parts own k =
    greatest_of (circle_reference tariff trip parts own k) (turning_points trip parts own k)

-- the circle minimum of a unit: twice the greatest reference from its origin to one of its stopover points
unfoldable pub unit_circle_minimum : Tariff → Itinerary → List Part → List ℕ → Option Nuc
unit_circle_minimum tariff trip parts own =
    option_map twice (greatest_of (greatest_turning tariff trip parts own) own)

-- the greatest reference to an interior stopover or the end of a part
abbrev pub greatest_in_part : Tariff → Itinerary → List Part → List ℕ → ℕ → Option Nuc
greatest_in_part tariff trip parts own k =
    greatest_of (circle_reference tariff trip parts own k) (part_points trip parts k)

-- the circle minimum over the parts that are given of a unit, each with its end: that of the unit where they are all
-- its parts and close it, since no fare runs from a city to itself
unfoldable pub circle_minimum : Tariff → Itinerary → List Part → List ℕ → Option Nuc
circle_minimum tariff trip parts own =
    option_map twice (greatest_of (greatest_in_part tariff trip parts own) own)
