-- Why some first parts are not gone on from: what the last of them breaks, whatever follows.
use Rattle.std.specs.Prelude.{ℕ, Bool, not, List, Option, length, is_none, ◌&&◌, ◌||◌}
use Rattle.fare_trip.specs.Itinerary.{Itinerary}
use Rattle.fare_tariff.specs.Tariff.{Tariff}
use Rattle.fare_rules.specs.declared.amount.Amount.{Amount}
use Rattle.fare_rules.specs.declared.part.Part.{Part}
use Rattle.fare_rules.specs.ComponentAmount.{component_amount}
use Rattle.fare_rules.specs.Construction.{own, start_of, end_of, part_at}
use Rattle.fare_rules.specs.Shape.{is_chained}
use Rattle.fare_units.specs.Onward.{is_stranded, is_homeward}
use Rattle.fare_lawful.specs.Shut.{is_priceless}
use Rattle.fare_units.specs.Walk.{is_fruitless}
use Rattle.fare_floors.specs.Ending.{needs_more}

-- the amount of a part that is not the last of its unit of half round trips: priced back where it heads home
abbrev pub onward_amount : Tariff → Itinerary → List Part → ℕ → Option Amount
onward_amount tariff trip parts k =
    component_amount tariff trip (start_of trip parts k) (end_of parts k) (part_at parts k).fare
    (is_homeward tariff trip parts k)

-- the last of some parts is worthless: its unit must have more parts, and yet it has no amount there
abbrev pub is_worthless : Tariff → Itinerary → List Part → ℕ → Bool
is_worthless tariff trip parts unit =
    needs_more tariff trip parts (own parts unit) && is_none (onward_amount tariff trip parts (length parts))

-- a unit is broken off: it must have more parts, and yet one of its parts begins in another city than the one before it
-- ends, so that it can't close
abbrev pub is_broken_off : Tariff → Itinerary → List Part → ℕ → Bool
is_broken_off tariff trip parts unit =
    needs_more tariff trip parts (own parts unit) && not (is_chained trip parts (own parts unit))

-- the last of some parts, of a unit, has no place in any lawful construction that begins with them: it is fruitless,
-- shuts a unit that has no price, leaves its unit stranded, is worthless in it, or breaks it off
abbrev pub is_hopeless : Tariff → Itinerary → List Part → ℕ → Bool
is_hopeless tariff trip parts unit =
    is_fruitless tariff parts || is_priceless tariff trip parts unit
    || is_stranded tariff trip parts unit || is_worthless tariff trip parts unit
    || is_broken_off tariff trip parts unit
