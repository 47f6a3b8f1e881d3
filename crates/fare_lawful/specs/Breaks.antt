-- The later rules of the list of all, each with where it is broken, and parts that have no amount.
use Rattle.std.specs.Prelude.{ℕ, ◌-◌, Bool, List, Option, drop, is_none}
use Rattle.fare_trip.specs.Itinerary.{Itinerary}
use Rattle.fare_tariff.specs.Tariff.{Tariff}
use Rattle.fare_rules.specs.declared.broken.Broken.{Broken}
use Rattle.fare_rules.specs.declared.part.Part.{Part}
use Rattle.fare_rules.specs.ComponentAmount.{component_amount}
use Rattle.fare_rules.specs.Construction.{start_of, end_of, part_at}
use Rattle.fare_rules.specs.Direction.{is_back}
use Rattle.fare_rules.specs.Lawful.{breaks}

-- the rules from the one of a number on
abbrev pub breaks_from : ℕ → Tariff → Itinerary → List Part → List (Option Broken)
breaks_from rule tariff trip parts = drop (rule - 1) (breaks tariff trip parts)

-- a part has no component amount, with the part's direction
abbrev pub is_unpriced : Tariff → Itinerary → List Part → ℕ → Bool
is_unpriced tariff trip parts k =
    is_none (component_amount tariff trip (start_of trip parts k) (end_of parts k) (part_at parts k).fare
    (is_back tariff trip parts k))
