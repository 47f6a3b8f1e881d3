-- What a walk over constructions that keeps the first k of them has found and seen.
use Rattle.std.specs.Prelude.{◌≡◌, ℕ, ◌<◌, ◌≤◌, ◌⊎◌, List, length, All, AllPairs, Contains}
use Rattle.fare_trip.specs.Itinerary.{Itinerary}
use Rattle.fare_tariff.specs.Tariff.{Tariff}
use Rattle.fare_rules.specs.declared.part.Part.{Part}
use Rattle.fare_rules.specs.Best.{IsLawful}
use Rattle.fare_rules.specs.FirstK.{Priced, IsPriced, IsBefore}

-- what was found are at most k lawful constructions, each before those behind it
pub record IsRanked (tariff : Tariff) (trip : Itinerary) (k : ℕ) (found : List Priced) : Type 0 where
  pub at_most : length found ≤ k
  pub lawful : All (IsPriced tariff trip) found
  pub rising : AllPairs IsBefore found

-- a construction with its price has its place: it was found, or k were that are before it
abbrev pub IsPlaced : ℕ → List Priced → List Part → ℕ → Type 0
IsPlaced k found parts price =
    Contains found (parts, price) ⊎ ((length found ≡ k) × All (λ one. IsBefore one (parts, price)) found)

-- a construction with its price is passed: it costs more than a limit, or has its place
abbrev pub IsPassed : ℕ → ℕ → List Priced → List Part → ℕ → Type 0
IsPassed k limit found parts price = (limit < price) ⊎ IsPlaced k found parts price

-- a list was found, at some price
abbrev pub IsListed : List Priced → List Part → Type 0
IsListed found parts = (price : ℕ) × Contains found (parts, price)

-- after a walk over some lists what was found is ranked, and each lawful one of these that costs no more than a limit
-- has its place
pub record IsWalked (tariff : Tariff) (trip : Itinerary) (k limit : ℕ) (D : List Part → Type 0) (found : List Priced) :
    Type 0 where
  pub ranked : IsRanked tariff trip k found
  pub walked : (parts : List Part) (price : ℕ) → IsLawful tariff trip parts price → price ≤ limit → D parts
      → IsPlaced k found parts price
