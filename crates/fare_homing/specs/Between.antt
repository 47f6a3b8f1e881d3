-- Between: what a part between the first and the last of a unit costs with an entry.
use Rattle.std.specs.Prelude.{ℕ, List, Option}
use Rattle.fare_trip.specs.Itinerary.{Itinerary}
use Rattle.fare_tariff.specs.Tariff.{Tariff}
use Rattle.fare_component.specs.declared.table.entry.Entry.{Entry}
use Rattle.fare_homing.specs.declared.between.Between.{Between}
use Rattle.fare_legs.specs.declared.ceiling.Ceiling.{Ceiling}
use Rattle.fare_legs.specs.Barred.{unless_barred}
use Rattle.fare_legs.specs.Ceiling.{below_ceiling}
use Rattle.fare_legs.specs.Costs.{between_cost}

-- what a part between costs with an entry, unless its fare has the rule of one of some, and where it isn't too dear for a
-- ceiling
abbrev pub cost_within : Tariff → Itinerary → List ℕ → Option Ceiling → Between → Entry → Option ℕ
cost_within tariff trip of_two ceiling between =
    unless_barred tariff of_two
    (below_ceiling tariff trip ceiling between.start between.home between.end (between_cost between.heads))
