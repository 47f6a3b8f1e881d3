-- Best: the lawful construction that has no lawful one before it.
use Rattle.std.specs.Prelude.{◌≡◌, ℕ, false, List, Option, Some, None, Ok, ◌≢◌}
use Rattle.fare_trip.specs.Itinerary.{Itinerary}
use Rattle.fare_tariff.specs.Tariff.{Tariff}
use Rattle.fare_rules.specs.declared.part.Part.{Part}
use Rattle.fare_rules.specs.Lawful.{lawful_price}
use Rattle.fare_rules.specs.Order.{is_before}

-- a construction is lawful, and this is its price
abbrev pub IsLawful : Tariff → Itinerary → List Part → ℕ → Type 0
IsLawful tariff trip parts price = lawful_price tariff trip parts ≡ Ok price

-- a construction with its price is lawful, and no lawful one is before it
pub record IsBest (tariff : Tariff) (trip : Itinerary) (parts : List Part) (price : ℕ) : Type 0 where
  pub lawful : IsLawful tariff trip parts price
  pub first : (other : List Part) (cost : ℕ) → IsLawful tariff trip other cost
      → is_before other cost parts price ≡ false

-- no construction is lawful
abbrev pub NoneIsLawful : Tariff → Itinerary → Type 0
NoneIsLawful tariff trip = (parts : List Part) (price : ℕ) → lawful_price tariff trip parts ≢ Ok price

-- an answer is the best construction with its price, or nothing where no construction is lawful
abbrev pub IsBestAnswer : Tariff → Itinerary → Option (List Part × ℕ) → Type 0
IsBestAnswer tariff trip None = NoneIsLawful tariff trip
IsBestAnswer tariff trip (Some best) = IsBest tariff trip best.0 best.1
