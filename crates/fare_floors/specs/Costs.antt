-- What parts cost at least, part by part and unit by unit.
use Rattle.std.specs.Prelude.{◌≡◌, ℕ, ◌+◌, ◌-◌, ◌<◌, ◌≤◌, ◌==◌, List, [], ◌∷◌, ◌++◌, Option, Some, None}
use Rattle.std.specs.Prelude.{sum_by, slice_index, if◌then◌else◌}
use Rattle.fare_trip.specs.Itinerary.{Itinerary}
use Rattle.fare_tariff.specs.Tariff.{Tariff}
use Rattle.fare_rules.specs.declared.part.Part.{Part}
use Rattle.fare_rules.specs.Construction.{start_of, end_of, last_of, part_at, own, unit_of, units}
use Rattle.fare_rules.specs.Shape.{is_ow}
use Rattle.fare_component.specs.declared.table.entry.Entry.{Entry}
use Rattle.fare_component.specs.Table.{entry_of}
use Rattle.fare_rules.specs.UnitPrice.{part_cost, unit_price}
use Rattle.fare_lawful.specs.Shut.{is_shut}
use Rattle.fare_bounds.specs.Covers.{least_cost}
use Rattle.fare_floors.specs.declared.costs.TheConstants.{MOST_UNITS}

-- an amount, 0 where there is none
abbrev pub or_nothing : Option ℕ → ℕ
or_nothing None = 0
or_nothing (Some amount) = amount

-- the record number of an entry's fare
abbrev pub fare_of_entry : Entry → ℕ
fare_of_entry entry = entry.fare

-- what a fare costs at least for a span: the price of a one way unit, or the lesser amount of a half round trip
abbrev pub fare_least : Tariff → Itinerary → ℕ → ℕ → ℕ → Option ℕ
fare_least tariff trip a b number = least_cost (entry_of tariff trip a b number)

-- what a part costs at least
abbrev pub part_least : Tariff → Itinerary → List Part → ℕ → ℕ
part_least tariff trip parts k =
    or_nothing (fare_least tariff trip (start_of trip parts k) (end_of parts k) (part_at parts k).fare)

-- what a unit costs above the sum of its amounts
abbrev pub surplus : Tariff → Itinerary → List Part → ℕ → ℕ
surplus tariff trip parts unit =
    unit_price tariff trip parts unit - sum_by (part_cost tariff trip parts (own parts unit)) (own parts unit)

-- an amount is added at the last of some places alone
abbrev pub added_at : ℕ → ℕ → ℕ → ℕ
added_at last more k = if last == k then more else 0

-- what a half round trip is worth in its unit: its amount; and the last part besides what the unit costs above the sum
-- of its amounts
abbrev pub half_worth : Tariff → Itinerary → List Part → ℕ → ℕ
half_worth tariff trip parts k =
    part_cost tariff trip parts (own parts (unit_of parts k)) k
    + added_at (last_of (own parts (unit_of parts k))) (surplus tariff trip parts (unit_of parts k)) k

-- what a part costs: a one way fare the price of its unit, and a half round trip what it is worth in its unit
abbrev pub true_cost : Tariff → Itinerary → List Part → ℕ → ℕ
true_cost tariff trip parts k =
    if is_ow tariff parts k then unit_price tariff trip parts (unit_of parts k) else half_worth tariff trip parts k

-- what the parts of a unit cost at least
abbrev pub unit_least : Tariff → Itinerary → List Part → ℕ → ℕ
unit_least tariff trip parts unit = sum_by (part_least tariff trip parts) (own parts unit)

-- what a unit costs at least: its price where it is shut, and else what its parts cost at least
abbrev pub unit_floor : Tariff → Itinerary → List Part → ℕ → ℕ
unit_floor tariff trip parts unit =
    if is_shut tariff trip parts (own parts unit) then unit_price tariff trip parts unit
    else unit_least tariff trip parts unit

-- what units cost at least
abbrev pub units_floor : Tariff → Itinerary → List Part → ℕ
units_floor tariff trip parts = sum_by (unit_floor tariff trip parts) (units parts)

-- amounts are what each unit of some parts costs at least, by its number
abbrev pub AreUnitFloors : Tariff → Itinerary → List Part → List ℕ → Type 0
AreUnitFloors tariff trip parts floors =
    (unit : ℕ) → 1 ≤ unit → unit < MOST_UNITS → slice_index floors unit ≡ unit_floor tariff trip parts unit

-- amounts are what each unit costs at least of some parts without their last one
pub record AreFloorsBefore (tariff : Tariff) (trip : Itinerary) (parts : List Part) (floors : List ℕ) : Type 0 where
  pub front : List Part
  pub last : Part
  pub whole : parts ≡ front ++ last ∷ []
  pub known : AreUnitFloors tariff trip front floors
