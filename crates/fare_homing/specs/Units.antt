-- Units: what each unit of three parts or more costs at most in a lawful construction up to a price.
use Rattle.std.specs.Prelude.{ℕ, ◌≤◌, List, Option, Some, length}
use Rattle.fare_trip.specs.Itinerary.{Itinerary}
use Rattle.fare_tariff.specs.Tariff.{Tariff}
use Rattle.fare_rules.specs.declared.part.Part.{Part}
use Rattle.fare_rules.specs.Best.{IsLawful}
use Rattle.fare_rules.specs.Construction.{greatest_unit, own, places}
use Rattle.fare_rules.specs.UnitPrice.{unit_price}
use Rattle.fare_homing.specs.declared.homing.Bar.{Bar}
use Rattle.fare_legs.specs.declared.ceiling.Ceiling.{Ceiling}
use Rattle.fare_legs.specs.Ceiling.{HasOneIndicator, IsCeiling, IsWithin}

-- each unit of three parts or more is under a ceiling, where there is one
abbrev pub AreUnitsWithin : Tariff → Itinerary → List Part → Option Ceiling → Type 0
AreUnitsWithin tariff trip parts ceiling =
    (unit : ℕ) → 1 ≤ unit → unit ≤ greatest_unit parts (places parts) → 3 ≤ length (own parts unit)
    → IsWithin ceiling (unit_price tariff trip parts unit)

-- a bar is one of a trip: its ceiling has the indicator of each sector, and in each lawful construction up to its limit
-- each unit of three parts or more is under its ceiling
pub record IsBar (tariff : Tariff) (trip : Itinerary) (bar : Bar) : Type 0 where
  pub alike : HasOneIndicator tariff trip bar.unit.indicator
  pub units : (parts : List Part) (price : ℕ) → IsLawful tariff trip parts price → price ≤ bar.limit
      → AreUnitsWithin tariff trip parts (Some bar.unit)

-- a ceiling of units is one of a trip, and in each lawful construction under the ceiling of all each unit of three
-- parts or more is under it
pub record IsUnitCeiling (tariff : Tariff) (trip : Itinerary) (ceiling unit : Option Ceiling) : Type 0 where
  pub alike : IsCeiling tariff trip unit
  pub units : (parts : List Part) (price : ℕ) → IsLawful tariff trip parts price → IsWithin ceiling price
      → AreUnitsWithin tariff trip parts unit
