-- Units to which parts still have to come.
use Rattle.std.specs.Prelude.{ℕ, ◌+◌, Bool, not, List, length, nat_lt, bytes_eq, ◌&&◌, ◌||◌}
use Rattle.std.specs.List.{list_any}
use Rattle.fare_codes.specs.declared.city.City.{City}
use Rattle.fare_trip.specs.Itinerary.{Itinerary, count, point}
use Rattle.fare_tariff.specs.Tariff.{Tariff}
use Rattle.fare_rules.specs.declared.part.Part.{Part}
use Rattle.fare_rules.specs.Numbers.{numbers}
use Rattle.fare_rules.specs.Construction.{own, origin, end_of, unit_of}
use Rattle.fare_rules.specs.Direction.{heads_home}
use Rattle.fare_rules.specs.Shape.{is_open_jaw, lie_together}
use Rattle.fare_lawful.specs.Shut.{is_shut}

-- no part can come to a unit any more: it is shut
abbrev pub is_shut_unit : Tariff → Itinerary → List Part → ℕ → Bool
is_shut_unit tariff trip parts unit = is_shut tariff trip parts (own parts unit)

-- a unit must go on: it is neither shut nor, as it stands, an open jaw
abbrev pub must_go_on : Tariff → Itinerary → List Part → List ℕ → Bool
must_go_on tariff trip parts own = not (is_shut tariff trip parts own) && not (is_open_jaw tariff trip parts own)

-- a point of a trip is a city
abbrev pub is_in_city : Itinerary → City → ℕ → Bool
is_in_city trip city i = bytes_eq (point trip i) city

-- a point of a trip lies in the country of a city
abbrev pub is_in_country : Tariff → Itinerary → City → ℕ → Bool
is_in_country tariff trip city i = lie_together tariff (point trip i) city

-- the points behind some parts
abbrev pub points_behind : Itinerary → List Part → List ℕ
points_behind trip parts = numbers (end_of parts (length parts) + 1) (count trip + 1)

-- a unit may come home behind some parts: its origin comes again there, or, where it has one part, a city of the
-- country of its origin, at which it may end as an open jaw
abbrev pub may_come_home : Tariff → Itinerary → List Part → List ℕ → Bool
may_come_home tariff trip parts own =
    list_any (is_in_city trip (origin trip parts own)) (points_behind trip parts)
    || (nat_lt (length own) 2
    && list_any (is_in_country tariff trip (origin trip parts own)) (points_behind trip parts))

-- a unit is stranded: it must go on, and yet may not come home
abbrev pub is_stranded : Tariff → Itinerary → List Part → ℕ → Bool
is_stranded tariff trip parts unit =
    must_go_on tariff trip parts (own parts unit) && not (may_come_home tariff trip parts (own parts unit))

-- a part heads home in its unit: it ends in the country of the unit's origin and begins in another
abbrev pub is_homeward : Tariff → Itinerary → List Part → ℕ → Bool
is_homeward tariff trip parts k = heads_home tariff trip parts (own parts (unit_of parts k)) k
