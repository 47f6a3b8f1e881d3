-- Floors: what a list of parts costs at least, over all its completions.
use Rattle.std.specs.Prelude.{◌≡◌, ℕ, ◌+◌, ◌≤◌, Bool, true, nat_lt, nat_le, ◌&&◌, List, ◌∷◌, [], ◌++◌, Option, Some}
use Rattle.std.specs.Prelude.{None}
use Rattle.fare_trip.specs.Itinerary.{Itinerary, count}
use Rattle.fare_tariff.specs.Tariff.{Tariff}
use Rattle.fare_rules.specs.declared.part.Part.{Part}
use Rattle.fare_rules.specs.Completion.{IsCompletion}
use Rattle.fare_rules.specs.Construction.{greatest_unit, places, own}
use Rattle.fare_lawful.specs.Shut.{is_shut}
use Rattle.fare_units.specs.Walk.{IsFront, next_start}
use Rattle.fare_component.specs.Table.{Pricing}

-- a list of parts has no completion
abbrev pub HasNoCompletion : Tariff → Itinerary → List Part → Type 0
HasNoCompletion tariff trip first = (parts : List Part) (price : ℕ) → IsCompletion tariff trip first parts price → ⊥

-- a number is at most the price of each completion of a list of parts
abbrev pub IsFloor : Tariff → Itinerary → List Part → ℕ → Type 0
IsFloor tariff trip first floor =
    (parts : List Part) (price : ℕ) → IsCompletion tariff trip first parts price → floor ≤ price

-- an answer is a floor of a list of parts, or nothing where that has no completion
abbrev pub IsFloorAnswer : Tariff → Itinerary → List Part → Option ℕ → Type 0
IsFloorAnswer tariff trip first None = HasNoCompletion tariff trip first
IsFloorAnswer tariff trip first (Some floor) = IsFloor tariff trip first floor

-- an answer is no less than another: it is nothing, or a number that is no less
abbrev pub IsNoLess : Option ℕ → Option ℕ → Type 0
IsNoLess least None = Unit {0}
IsNoLess None (Some floor) = ⊥
IsNoLess (Some least) (Some floor) = least ≤ floor

-- first parts were made for the trip of a table: they go on within it
abbrev pub IsMadeWith : Pricing → List Part → Type 0
IsMadeWith table first = IsFront table.trip first

-- a part may come after some: it ends above its start and within the trip, and its unit's number is in order
abbrev pub may_follow : Itinerary → List Part → Part → Bool
may_follow trip first part =
    nat_lt (next_start trip first) part.end && nat_le part.end (count trip)
    && nat_le part.unit (greatest_unit first (places first) + 1)

-- an answer is a list of parts with one more at its end, made with the same table, or nothing where that longer list
-- has no completion
abbrev pub IsNext : Pricing → List Part → Part → Option (List Part) → Type 0
IsNext table first part None = HasNoCompletion table.edition table.trip (first ++ part ∷ [])
IsNext table first part (Some longer) = (longer ≡ first ++ part ∷ []) × IsMadeWith table longer

-- no unit of some parts is open: each is shut
abbrev pub HasNoOpenUnit : Tariff → Itinerary → List Part → Type 0
HasNoOpenUnit tariff trip parts =
    (unit : ℕ) → 1 ≤ unit → unit ≤ greatest_unit parts (places parts)
    → is_shut tariff trip parts (own parts unit) ≡ true
