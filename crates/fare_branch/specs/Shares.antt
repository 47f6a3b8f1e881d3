-- Shares: constructions of three or more parts are shared out by their first three, and shorter ones belong to each.
use Rattle.std.specs.Prelude.{◌≡◌, ℕ, ◌+◌, ◌*◌, ◌/◌, ◌%◌, ◌==◌, ◌≤◌, ◌⊎◌, Bool, true, not, ◌&&◌, nat_le, List, [], ◌∷◌}
use Rattle.std.specs.Prelude.{length, Option}
use Rattle.fare_trip.specs.Itinerary.{Itinerary}
use Rattle.fare_tariff.specs.Tariff.{Tariff}
use Rattle.fare_rules.specs.declared.part.Part.{Part}
use Rattle.fare_rules.specs.Best.{IsLawful}
use Rattle.fare_rules.specs.Construction.{part_at}
use Rattle.fare_component.specs.Table.{Pricing}
use Rattle.fare_homing.specs.declared.homing.Homing.{Homing}
use Rattle.fare_homing.specs.Rows.{AreHomingsOf}
use Rattle.fare_branch.specs.declared.pieces.Piece.{Piece}
use Rattle.fare_branch.specs.declared.searching.TheConstants.{MOST_PIECES}
use Rattle.fare_branch.specs.declared.share.Share.{Share}
use Rattle.fare_branch.specs.declared.share.TheConstants.{MARKED_PARTS, MARKS, STRIDE}
use Rattle.fare_branch.specs.LeastPrice.{least_price}
use Rattle.fare_branch.specs.Search.{BeginsIn}
use Rattle.fare_branch.specs.Walked.{IsHeld, IsPassed, IsTold}

-- the mark of some parts with one more: a number made of its end, its unit and its fare
abbrev pub marked : ℕ → Part → ℕ
marked before part = ((before + part.end * 256 + part.unit) * STRIDE + part.fare) * STRIDE % MARKS

-- the mark of some parts, by the first three of them
abbrev pub mark : List Part → ℕ
mark parts = marked (marked (marked 0 (part_at parts 1)) (part_at parts 2)) (part_at parts 3)

-- the number of the share of so many to which a mark belongs
abbrev pub share_of : ℕ → ℕ → ℕ
share_of mark count = mark * count / MARKS

-- some parts are three or more, and belong to another share than one
abbrev pub is_elsewhere : Share → List Part → Bool
is_elsewhere share parts =
    nat_le MARKED_PARTS (length parts) && not (share_of (mark parts) share.count == share.number)

-- a construction with its price belongs to another share, or is passed
abbrev pub IsPassedIn : Share → ℕ → Option (List Part × ℕ) → List Part → ℕ → Type 0
IsPassedIn share least best parts price = (is_elsewhere share parts ≡ true) ⊎ IsPassed least best parts price

-- what was found begins in a piece, is lawful and costs its price, of which the bound was told
pub record IsBegun (tariff : Tariff) (trip : Itinerary) (piece : Piece) (least : ℕ) (found : Option (List Part × ℕ)) :
    Type 0 where
  pub told : IsTold tariff trip least found
  pub begins : (parts : List Part) → IsHeld found parts → BeginsIn tariff trip piece parts

-- and each lawful construction of a share that begins in the piece is passed
pub record IsFoundIn (tariff : Tariff) (trip : Itinerary) (share : Share) (least : ℕ) (piece : Piece)
    (found : Option (List Part × ℕ)) : Type 0 where
  pub begun : IsBegun tariff trip piece least found
  pub passed : (parts : List Part) (price : ℕ) → IsLawful tariff trip parts price → BeginsIn tariff trip piece parts
      → IsPassedIn share least found parts price

-- and so it is in each of some pieces
abbrev pub AreFoundIn : Tariff → Itinerary → Share → ℕ → List Piece → List (Option (List Part × ℕ)) → Type 0
AreFoundIn tariff trip share least [] [] = Unit {0}
AreFoundIn tariff trip share least (piece ∷ pieces) [] = ⊥
AreFoundIn tariff trip share least [] (found ∷ finds) = ⊥
AreFoundIn tariff trip share least (piece ∷ pieces) (found ∷ finds) =
    IsFoundIn tariff trip share least piece found × AreFoundIn tariff trip share least pieces finds

-- what the searches of all shares stand on: what is behind each point, some pieces, and a price that is no less than the
-- least
pub record IsPlan (table : Pricing) (homing : Homing) (pieces : List Piece) (price : ℕ) : Type 0 where
  pub homings : AreHomingsOf table.edition table.trip homing
  pub few : length pieces ≤ MOST_PIECES
  pub known : least_price table.edition table.trip ≤ price
