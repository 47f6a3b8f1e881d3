-- Search: pieces of the first-part choices, the least price of all, and what a search of a piece finds.
use Rattle.std.specs.Prelude.{◌≡◌, ℕ, ◌<◌, ◌≤◌, ◌⊎◌, false, List, ◌∷◌, Option, Some, None, slice_get, nat_le}
use Rattle.std.specs.Prelude.{if◌then◌else◌}
use Rattle.fare_trip.specs.Itinerary.{Itinerary}
use Rattle.fare_tariff.specs.Tariff.{Tariff}
use Rattle.fare_rules.specs.declared.part.Part.{Part}
use Rattle.fare_rules.specs.Best.{IsLawful, NoneIsLawful}
use Rattle.fare_rules.specs.Completion.{first_part_choices}
use Rattle.fare_rules.specs.Order.{is_before}
use Rattle.fare_branch.specs.declared.pieces.Piece.{Piece}
use Rattle.fare_branch.specs.declared.bound.TheConstants.{NO_PRICE}

-- a number is the least price of a lawful construction, or `NO_PRICE` where none is lawful
pub record IsLeastPrice (tariff : Tariff) (trip : Itinerary) (least : ℕ) : Type 0 where
  pub under : (parts : List Part) (price : ℕ) → IsLawful tariff trip parts price → least ≤ price
  pub reached : ((parts : List Part) × IsLawful tariff trip parts least)
      ⊎ (NoneIsLawful tariff trip × (least ≡ NO_PRICE))

-- a number is the price of a lawful construction
abbrev pub IsPriceOfOne : Tariff → Itinerary → ℕ → Type 0
IsPriceOfOne tariff trip price = (parts : List Part) × IsLawful tariff trip parts price

-- a construction begins with the first-part choice of a number
pub record BeginsBy (tariff : Tariff) (trip : Itinerary) (number : ℕ) (parts : List Part) : Type 0 where
  pub first : Part
  pub rest : List Part
  pub whole : parts ≡ first ∷ rest
  pub choice : slice_get (first_part_choices tariff trip) number ≡ Some (first.end, first.fare)

-- a construction begins in a piece: with a first-part choice of a number in it
pub record BeginsIn (tariff : Tariff) (trip : Itinerary) (piece : Piece) (parts : List Part) : Type 0 where
  pub number : ℕ
  pub above : piece.first ≤ number
  pub below : number < piece.past
  pub by : BeginsBy tariff trip number parts

-- a construction with its price is lawful, begins in a piece and costs the least price known, and none that begins
-- there and is lawful is before it
pub record IsFirstIn (tariff : Tariff) (trip : Itinerary) (piece : Piece) (least : ℕ) (parts : List Part) (price : ℕ) :
    Type 0 where
  pub lawful : IsLawful tariff trip parts price
  pub begins : BeginsIn tariff trip piece parts
  pub told : price ≡ least
  pub first : (other : List Part) (cost : ℕ) → IsLawful tariff trip other cost → BeginsIn tariff trip piece other
      → is_before other cost parts price ≡ false

-- each lawful construction that begins in a piece costs more than a number
abbrev pub AllCostMore : Tariff → Itinerary → Piece → ℕ → Type 0
AllCostMore tariff trip piece least =
    (parts : List Part) (price : ℕ) → IsLawful tariff trip parts price → BeginsIn tariff trip piece parts
    → least < price

-- an answer is the first construction of a piece at the least price known, or nothing where each one costs more
abbrev pub IsSearched : Tariff → Itinerary → Piece → ℕ → Option (List Part × ℕ) → Type 0
IsSearched tariff trip piece least None = AllCostMore tariff trip piece least
IsSearched tariff trip piece least (Some found) = IsFirstIn tariff trip piece least found.0 found.1

-- what was found, where its price is no more than a number
abbrev pub kept_at : Option (List Part × ℕ) → ℕ → Option (List Part × ℕ)
kept_at None least = None
kept_at (Some found) least = if nat_le found.1 least then Some found else None
