-- What a walk over constructions comes to, whatever it looks for.
use Rattle.std.specs.Prelude.{ℕ, ◌≤◌, ◌⊎◌, List, ◌++◌}
use Rattle.fare_trip.specs.Itinerary.{Itinerary}
use Rattle.fare_tariff.specs.Tariff.{Tariff}
use Rattle.fare_rules.specs.declared.part.Part.{Part}
use Rattle.fare_rules.specs.Best.{IsLawful}

-- whatever costs no less than a floor is passed
abbrev pub AllPassedFrom : ℕ → (List Part → ℕ → Type 0) → Type 0
AllPassedFrom floor passed = (parts : List Part) (price : ℕ) → floor ≤ price → passed parts price

-- and so is each completion of some parts that costs no less
abbrev pub AllBehindPassed : List Part → ℕ → (List Part → ℕ → Type 0) → Type 0
AllBehindPassed front floor passed = (rest : List Part) (price : ℕ) → floor ≤ price → passed (front ++ rest) price

-- from what was passed and held nothing changed but that more may be passed
pub record IsStill (passed : List Part → ℕ → Type 0) (held : List Part → Type 0) (passes : List Part → ℕ → Type 0)
    (holds : List Part → Type 0) : Type 0 where
  pub kept : (parts : List Part) (price : ℕ) → passed parts price → passes parts price
  pub from : (parts : List Part) → holds parts → held parts

-- from what was passed and held a walk over some lists came to what is: what was passed stays so, each lawful list of
-- those walked is passed, and what is held was so before, or is one of those walked
pub record IsWalk (tariff : Tariff) (trip : Itinerary) (D : List Part → Type 0) (passed : List Part → ℕ → Type 0)
    (held : List Part → Type 0) (passes : List Part → ℕ → Type 0) (holds : List Part → Type 0) : Type 0 where
  pub kept : (parts : List Part) (price : ℕ) → passed parts price → passes parts price
  pub walked : (parts : List Part) (price : ℕ) → IsLawful tariff trip parts price → D parts → passes parts price
  pub from : (parts : List Part) → holds parts → held parts ⊎ D parts
