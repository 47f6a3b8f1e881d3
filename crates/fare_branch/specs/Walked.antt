-- What a walk for the best construction has seen, and what its best is worth.
use Rattle.std.specs.Prelude.{◌≡◌, ℕ, ◌<◌, ◌≤◌, ◌⊎◌, Bool, false, not, ◌&&◌, ◌||◌, ◌==◌, nat_le, List, length, Option}
use Rattle.std.specs.Prelude.{Some, None}
use Rattle.fare_trip.specs.Itinerary.{Itinerary}
use Rattle.fare_tariff.specs.Tariff.{Tariff}
use Rattle.fare_rules.specs.declared.part.Part.{Part}
use Rattle.fare_rules.specs.Best.{IsLawful}
use Rattle.fare_rules.specs.Order.{is_before}
use Rattle.fare_units.specs.Walk.{IsBound}
use Rattle.fare_branch.specs.Sought.{IsWalk}

-- a construction with its price is passed: it costs more than the least price known, or is not before the best that was
-- found
abbrev pub IsPassed : ℕ → Option (List Part × ℕ) → List Part → ℕ → Type 0
IsPassed least best parts price = (least < price) ⊎ IsBound parts price best

-- what was found is lawful and costs its price, of which the bound was told
abbrev pub IsTold : Tariff → Itinerary → ℕ → Option (List Part × ℕ) → Type 0
IsTold tariff trip least None = Unit {0}
IsTold tariff trip least (Some best) = IsLawful tariff trip best.0 best.1 × (least ≤ best.1)

-- something was found, and is a list
abbrev pub IsHeld : Option (List Part × ℕ) → List Part → Type 0
IsHeld None parts = ⊥
IsHeld (Some best) parts = parts ≡ best.0

-- from a least price and a best a walk over some lists came to others: the least price has not risen, what is found is
-- lawful and told where it was before, and the lists were walked
pub record IsBestWalk (tariff : Tariff) (trip : Itinerary) (D : List Part → Type 0) (before : ℕ)
    (best : Option (List Part × ℕ)) (after : ℕ) (found : Option (List Part × ℕ)) : Type 0 where
  pub falls : after ≤ before
  pub told : IsTold tariff trip before best → IsTold tariff trip after found
  pub walk : IsWalk tariff trip D (IsPassed before best) (IsHeld best) (IsPassed after found) (IsHeld found)

-- a number is no more than the price of any lawful construction
abbrev pub IsUnderAll : Tariff → Itinerary → ℕ → Type 0
IsUnderAll tariff trip least = (parts : List Part) (price : ℕ) → IsLawful tariff trip parts price → least ≤ price

-- some parts are no sooner than a construction that costs no more than their floor: they are as long, and not before it
-- at one price
abbrev pub is_no_sooner : List Part → ℕ → List Part → ℕ → Bool
is_no_sooner parts price front floor =
    nat_le price floor && length front == length parts && not (is_before front price parts price)

-- what was found is before each completion of some parts that costs no less than a floor, or they are no sooner than it
abbrev pub is_beaten : Option (List Part × ℕ) → List Part → ℕ → Bool
is_beaten None front floor = false
is_beaten (Some best) front floor =
    is_before best.0 best.1 front floor || is_no_sooner best.0 best.1 front floor
