-- A trip of one sector: the fares that may be used for it, and the cheapest of them.
use Rattle.std.specs.Prelude.{◌≡◌, ℕ, ◌<◌, ◌≤◌, ◌⊎◌, false, Option, Some, None, [], ◌∷◌, List, option_map}
use Rattle.std.specs.Prelude.{if◌then◌else◌}
use Rattle.fare_codes.specs.declared.nuc.Nuc.{Nuc}
use Rattle.fare_trip.specs.Itinerary.{Itinerary}
use Rattle.fare_tariff.specs.Tariff.{Tariff}
use Rattle.fare_tariff.specs.Lookup.{fare_at}
use Rattle.fare_rules.specs.declared.part.Part.{Part}
use Rattle.fare_rules.specs.ComponentAmount.{component_amount}
use Rattle.fare_rules.specs.Shape.{is_one_way}

-- the amount of the fare of a record number for the first sector of a trip, where it is one way and may be used
unfoldable pub single_fare : Tariff → Itinerary → ℕ → Option Nuc
single_fare tariff trip number =
    if is_one_way (fare_at tariff number)
    then option_map (λ found. found.amount) (component_amount tariff trip 0 1 number false)
    else None

-- the construction of one part for one sector
abbrev pub single_part : ℕ → List Part
single_part number = record { end = 1; unit = 1; fare = number } ∷ []

-- the fare of a record number costs no more than any other that may be used, and its number is the least of those that
-- cost the same
pub record IsCheapest (tariff : Tariff) (trip : Itinerary) (number price : ℕ) : Type 0 where
  pub usable : single_fare tariff trip number ≡ Some price
  pub least : (other cost : ℕ) → single_fare tariff trip other ≡ Some cost
      → (price < cost) ⊎ ((price ≡ cost) × (number ≤ other))
