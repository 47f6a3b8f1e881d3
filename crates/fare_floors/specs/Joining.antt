-- Joining: whether a part may come to a unit of first parts again.
use Rattle.std.specs.Prelude.{ℕ, ◌+◌, Bool, not, List, length, nat_lt, ◌&&◌, ◌||◌}
use Rattle.std.specs.List.{list_any}
use Rattle.fare_trip.specs.Itinerary.{Itinerary, count}
use Rattle.fare_rules.specs.declared.part.Part.{Part}
use Rattle.fare_rules.specs.Numbers.{numbers}
use Rattle.fare_rules.specs.Construction.{own, origin, last_of, end_city, unit_of}
use Rattle.fare_units.specs.Onward.{is_in_city, points_behind}
use Rattle.fare_units.specs.Walk.{next_start}

-- a unit is blocked: it began behind the unit of the last of some parts, which it would cross if it went on
abbrev pub is_blocked : List Part → ℕ → Bool
is_blocked parts unit = nat_lt (unit_of parts (length parts)) unit

-- a part may join a unit: the city where its last part ended comes again from where the next part begins on; or, where
-- it has one part, the city of its origin comes behind the parts
abbrev pub may_join : Itinerary → List Part → List ℕ → Bool
may_join trip parts own =
    list_any (is_in_city trip (end_city trip parts (last_of own))) (numbers (next_start trip parts) (count trip + 1))
    || (nat_lt (length own) 2 && list_any (is_in_city trip (origin trip parts own)) (points_behind trip parts))

-- no part can come to a unit that is not shut: it is blocked, or no part may join it
abbrev pub is_stuck : Itinerary → List Part → ℕ → Bool
is_stuck trip parts unit = is_blocked parts unit || not (may_join trip parts (own parts unit))
