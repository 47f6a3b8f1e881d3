-- What a dive goes through: first parts that go on from others, or begin in a piece.
use Rattle.std.specs.Prelude.{◌≡◌, ℕ, ◌⊎◌, List, [], ◌∷◌, Option}
use Rattle.fare_trip.specs.Itinerary.{Itinerary}
use Rattle.fare_tariff.specs.Tariff.{Tariff}
use Rattle.fare_rules.specs.declared.part.Part.{Part}
use Rattle.fare_rules.specs.Best.{IsLawful}
use Rattle.fare_component.specs.Table.{Pricing}
use Rattle.fare_units.specs.Walk.{Completes}
use Rattle.fare_branch.specs.declared.pieces.Piece.{Piece}
use Rattle.fare_floors.specs.Floors.{IsMadeWith}
use Rattle.fare_branch.specs.Search.{BeginsIn}
use Rattle.fare_branch.specs.Walked.{IsBestWalk}

-- first parts with their floor go on from some others, within the trip
pub record GoesFrom (table : Pricing) (front : List Part) (step : List Part × ℕ) : Type 0 where
  pub goes : Completes front step.0
  pub made : IsMadeWith table step.0

-- first parts with their floor begin with a choice of a piece, within the trip
pub record StartsIn (table : Pricing) (piece : Piece) (step : List Part × ℕ) : Type 0 where
  pub begins : BeginsIn table.edition table.trip piece step.0
  pub made : IsMadeWith table step.0

-- a construction with its price is lawful, and begins in a piece
pub record IsLanded (table : Pricing) (piece : Piece) (found : List Part × ℕ) : Type 0 where
  pub begins : BeginsIn table.edition table.trip piece found.0
  pub lawful : IsLawful table.edition table.trip found.0 found.1

-- a list is one of some
abbrev pub IsAnyOf : List (List Part) → List Part → Type 0
IsAnyOf [] parts = ⊥
IsAnyOf (one ∷ more) parts = (parts ≡ one) ⊎ IsAnyOf more parts

-- from a least price and a best, dives into a piece came to others: some lists that begin in the piece were taken,
-- where they are lawful
abbrev pub IsDived : Tariff → Itinerary → Piece → ℕ → Option (List Part × ℕ) → ℕ → Option (List Part × ℕ) → Type 0
IsDived tariff trip piece before best after found =
    (lists : List (List Part)) × ((parts : List Part) → IsAnyOf lists parts → BeginsIn tariff trip piece parts)
    × IsBestWalk tariff trip (IsAnyOf lists) before best after found
