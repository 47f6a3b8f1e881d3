-- First k: the first lawful constructions by Order.
use Rattle.std.specs.Prelude.{◌≡◌, ℕ, ◌≤◌, ◌⊎◌, true, List, length, All, AllPairs, Contains}
use Rattle.fare_trip.specs.Itinerary.{Itinerary}
use Rattle.fare_tariff.specs.Tariff.{Tariff}
use Rattle.fare_rules.specs.declared.part.Part.{Part}
use Rattle.fare_rules.specs.Order.{is_before}
use Rattle.fare_rules.specs.Best.{IsLawful}

-- a construction and its price
abbrev pub Priced : Type 0
Priced = List Part × ℕ

-- a construction is lawful, at its price
abbrev pub IsPriced : Tariff → Itinerary → Priced → Type 0
IsPriced tariff trip one = IsLawful tariff trip one.0 one.1

-- a construction is before another
abbrev pub IsBefore : Priced → Priced → Type 0
IsBefore one other = is_before one.0 one.1 other.0 other.1 ≡ true

-- a list is the first k lawful constructions by Order, or all where there are fewer: each is lawful and before those
-- behind it, and each lawful one is in the list, or the list has k members and each of them is before it
pub record IsFirstK (tariff : Tariff) (trip : Itinerary) (k : ℕ) (first : List Priced) : Type 0 where
  pub at_most : length first ≤ k
  pub lawful : All (IsPriced tariff trip) first
  pub rising : AllPairs IsBefore first
  pub others : (other : Priced) → IsPriced tariff trip other
      → Contains first other ⊎ ((length first ≡ k) × All (λ one. IsBefore one other) first)
