-- Dear: first parts whose last one makes the circle minimum of its unit greater than a ceiling.
use Rattle.std.specs.Prelude.{ℕ, Bool, false, List, length, Option, Some, None, nat_lt, ◌&&◌}
use Rattle.fare_trip.specs.Itinerary.{Itinerary}
use Rattle.fare_tariff.specs.Tariff.{Tariff}
use Rattle.fare_rules.specs.declared.part.Part.{Part}
use Rattle.fare_rules.specs.Construction.{end_of, first_of, own, part_at, start_of, unit_of}
use Rattle.fare_legs.specs.declared.ceiling.Ceiling.{Ceiling}
use Rattle.fare_legs.specs.Ceiling.{is_too_dear}
use Rattle.fare_floors.specs.Ending.{needs_more}

-- a place has a part between the first and the last of its unit, which has more than one part and must have more, and its
-- fare is too dear for a ceiling in a unit that closes where that one began
abbrev pub is_dear_between : Tariff → Itinerary → Ceiling → List Part → ℕ → Bool
is_dear_between tariff trip ceiling parts k =
    nat_lt 1 (length (own parts (unit_of parts k)))
    && (needs_more tariff trip parts (own parts (unit_of parts k))
    && is_too_dear tariff trip ceiling (start_of trip parts k)
    (start_of trip parts (first_of (own parts (unit_of parts k)))) (end_of parts k) (part_at parts k).fare)

-- the last of some parts makes the circle minimum of its unit greater than the ceiling, where there is one
abbrev pub is_over : Tariff → Itinerary → Option Ceiling → List Part → Bool
is_over tariff trip None parts = false
is_over tariff trip (Some ceiling) parts =
    nat_lt 0 (length parts) && is_dear_between tariff trip ceiling parts (length parts)
