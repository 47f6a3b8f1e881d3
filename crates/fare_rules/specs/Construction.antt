-- Constructions: lists of parts that cover a trip, and their pricing units.
use Rattle.std.specs.Prelude.{ℕ, ◌+◌, ◌-◌, Bool, List, [], ◌∷◌, length, Option, Some, None, find, filter, is_none, max}
use Rattle.std.specs.Prelude.{slice_index_or, nat_le, nat_lt, ◌==◌, ◌||◌, if◌then◌else◌}
use Rattle.std.specs.Option.{option_or}
use Rattle.fare_codes.specs.declared.city.City.{City}
use Rattle.fare_trip.specs.Itinerary.{Itinerary, count, point}
use Rattle.fare_records.specs.Record.{FareRecord}
use Rattle.fare_tariff.specs.Tariff.{Tariff}
use Rattle.fare_tariff.specs.Lookup.{fare_at}
use Rattle.fare_rules.specs.declared.part.Part.{Part}
use Rattle.fare_rules.specs.Numbers.{numbers}
use Rattle.fare_rules.specs.Span.{is_surface}

-- what stands at a place that no part has
abbrev pub no_part : Part
no_part = record { end = 0; unit = 0; fare = 0 }

-- the part at a place, from 1
abbrev pub part_at : List Part → ℕ → Part
part_at parts k = slice_index_or parts (k - 1) no_part

-- the places of the parts
abbrev pub places : List Part → List ℕ
places parts = numbers 1 (length parts + 1)

-- the point where a part ends
abbrev pub end_of : List Part → ℕ → ℕ
end_of parts k = (part_at parts k).end

-- the unit of a part
abbrev pub unit_of : List Part → ℕ → ℕ
unit_of parts k = (part_at parts k).unit

-- what comes after a point begins there, or one point later where a surface sector stands between
abbrev pub begin_after : Itinerary → ℕ → ℕ
begin_after trip e = if is_surface trip (e + 1) then e + 1 else e

-- the first part begins at 0, and each other one after the end of the part before it
abbrev pub start_of : Itinerary → List Part → ℕ → ℕ
start_of trip parts k = if nat_le k 1 then 0 else begin_after trip (end_of parts (k - 1))

-- the city where a part begins
abbrev pub start_city : Itinerary → List Part → ℕ → City
start_city trip parts k = point trip (start_of trip parts k)

-- the city where a part ends
abbrev pub end_city : Itinerary → List Part → ℕ → City
end_city trip parts k = point trip (end_of parts k)

-- a part does not end above its start, or ends behind the trip
abbrev pub is_misended : Itinerary → List Part → ℕ → Bool
is_misended trip parts k =
    nat_le (end_of parts k) (start_of trip parts k) || nat_lt (count trip) (end_of parts k)

-- the parts do not end where the trip ends; where there is none, they end at 0
abbrev pub ends_early : Itinerary → List Part → Option ℕ
ends_early trip parts =
    if end_of parts (length parts) == count trip then None else Some (length parts + 1)

-- where the parts do not cover the trip: at the first that does not end between its start and the trip's end, else
-- behind the last where that does not end at the trip's end
unfoldable pub uncovered : Itinerary → List Part → Option ℕ
uncovered trip parts = option_or (find (is_misended trip parts) (places parts)) (ends_early trip parts)

-- the greatest unit number of the parts of a list of places, 0 for none
abbrev pub greatest_unit : List Part → List ℕ → ℕ
greatest_unit parts [] = 0
greatest_unit parts (k ∷ rest) = max (unit_of parts k) (greatest_unit parts rest)

-- the unit number of a part is 0, or more than one above the greatest of the parts before it
abbrev pub is_misnumbered : List Part → ℕ → Bool
is_misnumbered parts k =
    (unit_of parts k == 0) || nat_lt (greatest_unit parts (numbers 1 k) + 1) (unit_of parts k)

-- the first part whose unit number is out of order
unfoldable pub misnumbered : List Part → Option ℕ
misnumbered parts = find (is_misnumbered parts) (places parts)

-- the fare of a part
abbrev pub fare_of : Tariff → List Part → ℕ → Option FareRecord
fare_of tariff parts k = fare_at tariff (part_at parts k).fare

-- the number of a part's fare is that of no fare
abbrev pub is_unfiled : Tariff → List Part → ℕ → Bool
is_unfiled tariff parts k = is_none (fare_of tariff parts k)

-- the first part whose fare is not filed
unfoldable pub unfiled : Tariff → List Part → Option ℕ
unfiled tariff parts = find (is_unfiled tariff parts) (places parts)

-- the numbers of the units
abbrev pub units : List Part → List ℕ
units parts = numbers 1 (greatest_unit parts (places parts) + 1)

-- a part belongs to a unit
abbrev pub is_own : List Part → ℕ → ℕ → Bool
is_own parts unit k = unit_of parts k == unit

-- the places of the parts of a unit
unfoldable pub own : List Part → ℕ → List ℕ
own parts unit = filter (is_own parts unit) (places parts)

-- the first of the places of a unit, 0 where there is none
abbrev pub first_of : List ℕ → ℕ
first_of [] = 0
first_of (k ∷ rest) = k

-- the last of the places of a unit, 0 where there is none
abbrev pub last_of : List ℕ → ℕ
last_of [] = 0
last_of (k ∷ []) = k
last_of (k ∷ next ∷ rest) = last_of (next ∷ rest)

-- the places of a unit without the last
abbrev pub but_last : List ℕ → List ℕ
but_last [] = []
but_last (k ∷ []) = []
but_last (k ∷ next ∷ rest) = k ∷ but_last (next ∷ rest)

-- the city where the parts of some places begin: the origin of their unit
abbrev pub origin : Itinerary → List Part → List ℕ → City
origin trip parts own = start_city trip parts (first_of own)
