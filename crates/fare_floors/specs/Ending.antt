-- Ending: whether a unit of first parts may end as it stands.
use Rattle.std.specs.Prelude.{ℕ, Bool, true, not, List, is_some, nat_lt, ◌&&◌, ◌||◌, if◌then◌else◌}
use Rattle.fare_trip.specs.Itinerary.{Itinerary}
use Rattle.fare_tariff.specs.Tariff.{Tariff}
use Rattle.fare_rules.specs.declared.part.Part.{Part}
use Rattle.fare_rules.specs.ComponentAmount.{component_amount}
use Rattle.fare_rules.specs.Construction.{last_of, start_of, end_of, part_at}
use Rattle.fare_component.specs.declared.table.entry.Entry.{Entry}
use Rattle.fare_units.specs.Onward.{must_go_on}
use Rattle.fare_lawful.specs.Shut.{is_shut}
use Rattle.fare_floors.specs.Stays.{is_outside}

-- an entry has an amount, priced back or not
abbrev pub is_priced : Entry → Bool → Bool
is_priced entry back = if back then is_some entry.back else is_some entry.out

-- a place has a part, and this has an amount priced back
abbrev pub is_priced_back : Tariff → Itinerary → List Part → ℕ → Bool
is_priced_back tariff trip parts k =
    nat_lt 0 k
    && is_some (component_amount tariff trip (start_of trip parts k) (end_of parts k) (part_at parts k).fare true)

-- a unit must have more parts: it must go on, or it is not shut and would end as an open jaw whose last part has no
-- amount priced back, or whose stay one of its rules does not allow
abbrev pub needs_more : Tariff → Itinerary → List Part → List ℕ → Bool
needs_more tariff trip parts own =
    must_go_on tariff trip parts own
    || (not (is_shut tariff trip parts own)
    && (not (is_priced_back tariff trip parts (last_of own)) || is_outside tariff trip parts own))
