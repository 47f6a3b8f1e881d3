-- Costs: what a part costs in a unit, by its place there, and numbers that are under what something costs.
use Rattle.std.specs.Prelude.{◌≡◌, ℕ, ◌≤◌, Bool, not, ◌&&◌, ◌||◌, Option, Some, None, option_map, is_some, bytes_eq}
use Rattle.std.specs.Prelude.{if◌then◌else◌}
use Rattle.fare_codes.specs.declared.city.City.{City}
use Rattle.fare_trip.specs.Itinerary.{Itinerary, point}
use Rattle.fare_tariff.specs.Tariff.{Tariff}
use Rattle.fare_rules.specs.Shape.{lie_together}
use Rattle.fare_component.specs.declared.table.entry.Entry.{Entry}
use Rattle.fare_bounds.specs.Covers.{hundredths_of}

-- an amount is there, and no more than some number
abbrev pub IsUpTo : ℕ → Option ℕ → Type 0
IsUpTo most found = (least : ℕ) × (found ≡ Some least) × (least ≤ most)

-- what is under one number is under another
abbrev pub IsKeptBy : Option ℕ → Option ℕ → Type 0
IsKeptBy before after = (most : ℕ) → IsUpTo most before → IsUpTo most after

-- two cities are the same, or lie in one country
abbrev pub are_near : Tariff → City → City → Bool
are_near tariff a b = bytes_eq a b || lie_together tariff a b

-- an amount of a half round trip: nothing where the entry has a price as a unit of its own
abbrev pub half_cost : Entry → Option ℕ → Option ℕ
half_cost entry amount = if is_some entry.single then None else amount

-- what a part alone in its unit costs with an entry: its price as a unit of its own
abbrev pub single_cost : Entry → Option ℕ
single_cost entry = entry.single

-- what the first part of a unit of half round trips costs with an entry: its amount priced out
abbrev pub first_cost : Entry → Option ℕ
first_cost entry = half_cost entry (option_map hundredths_of entry.out)

-- what the last part of a unit of half round trips costs with an entry: its amount priced back
abbrev pub back_cost : Entry → Option ℕ
back_cost entry = half_cost entry (option_map hundredths_of entry.back)

-- a part between two points heads home in a unit that closes at another: it comes into the country of the city where
-- the unit closes from outside it
abbrev pub heads_to : Tariff → Itinerary → ℕ → ℕ → ℕ → Bool
heads_to tariff trip a b home =
    lie_together tariff (point trip b) (point trip home) && not (lie_together tariff (point trip a) (point trip home))

-- what a part between the first and the last of a unit costs with an entry: its amount priced back where it heads home,
-- and else out
abbrev pub between_cost : Bool → Entry → Option ℕ
between_cost heads entry = if heads then back_cost entry else first_cost entry

-- a point is in the very city of another
abbrev pub is_same_city : Itinerary → ℕ → ℕ → Bool
is_same_city trip start home = bytes_eq (point trip home) (point trip start)
