-- What workers have: seats at one word that know the floor, and what they found of their shares.
use Rattle.std.specs.Prelude.{◌≡◌, ℕ, zero, suc, ◌<◌, ◌≤◌, ◌⊎◌, min, true, List, [], ◌∷◌, ◌++◌, Option, Some, None}
use Rattle.std.specs.Prelude.{All, length, slice_index_or}
use Rattle.atomic_table.specs.Seated.{TableId}
use Rattle.atomic_table.specs.declared.shared.Seat.{Seat}
use Rattle.fare_rules.specs.declared.part.Part.{Part}
use Rattle.fare_rules.specs.Best.{IsLawful}
use Rattle.fare_component.specs.Table.{Pricing}
use Rattle.fare_branch.specs.declared.bound.TheConstants.{NO_PRICE}
use Rattle.fare_branch.specs.declared.pieces.Piece.{Piece}
use Rattle.fare_branch.specs.declared.searching.TheConstants.{MOST_PIECES}
use Rattle.fare_branch.specs.declared.share.Share.{Share}
use Rattle.fare_branch.specs.Search.{BeginsIn, kept_at}
use Rattle.fare_branch.specs.Shares.{AreFoundIn, IsBegun, is_elsewhere}
use Rattle.fare_branch.specs.Walked.{IsPassed}
use Rattle.fare_split.specs.declared.word.View.{View}
use Rattle.fare_split.specs.declared.worker.Worker.{Worker}
use Rattle.fare_split.specs.PriceWord.{floor_of}
use Rattle.fare_split.specs.Rows.{ArePieces, choice_count, earlier_of}

-- the share of a worker of so many
abbrev pub share_at : ℕ → ℕ → Share
share_at number count = record { number = number; count = count }

-- a worker has a seat at a word, which knows a floor and nothing below it
pub record IsSeated (word : TableId) (floor : ℕ) (worker : Worker) : Type 0 where
  pub seat : Seat (Unit {0}) View
  pub there : worker.seat ≡ Some seat
  pub at : seat.table_id ≡ word
  pub knows : seat.me.0.floor ≡ floor
  pub low : floor ≤ seat.me.0.least

-- a worker of a number has found what its share of each piece comes to, by a price no less than the least
pub record HasFound (prices : Pricing) (pieces : List Piece) (number : ℕ) (worker : Worker) : Type 0 where
  pub floor : floor_of prices ≤ worker.least
  pub found : AreFoundIn prices.edition prices.trip (share_at number (length pieces)) worker.least pieces
      worker.finds.items

-- each worker has, and there are as many as pieces
pub record HaveFound (prices : Pricing) (pieces : List Piece) (workers : List Worker) : Type 0 where
  pub count : length workers ≡ length pieces
  pub each : (k : ℕ) (d : Worker) → k < length workers → HasFound prices pieces k (slice_index_or workers k d)

-- a worker of a number has run: it has its seat, and has found what its share comes to
pub record HasRun (word : TableId) (prices : Pricing) (pieces : List Piece) (number : ℕ) (worker : Worker) :
    Type 0 where
  pub seated : IsSeated word (floor_of prices) worker
  pub found : HasFound prices pieces number worker

-- each worker has run, and there are as many as pieces
pub record HaveRun (word : TableId) (prices : Pricing) (pieces : List Piece) (workers : List Worker) : Type 0 where
  pub count : length workers ≡ length pieces
  pub each : (k : ℕ) (d : Worker) → k < length pieces → HasRun word prices pieces k (slice_index_or workers k d)

-- a worker found something or nothing in the piece of a number, and in so many pieces
abbrev pub HasAt : ℕ → Worker → Type 0
HasAt number worker = number < length worker.finds.items

abbrev pub HasAll : ℕ → Worker → Type 0
HasAll pieces worker = length worker.finds.items ≡ pieces

-- what a worker found in the piece of a number
abbrev pub found_at : ℕ → Worker → Option (List Part × ℕ)
found_at number worker = slice_index_or worker.finds.items number None

-- the least of a price and those that workers know
abbrev pub least_from : ℕ → List Worker → ℕ
least_from least [] = least
least_from least (worker ∷ workers) = least_from (min least worker.least) workers

-- the earliest of the best so far and what workers found in the piece of a number
abbrev pub merged_from : Option (List Part × ℕ) → List Worker → ℕ → Option (List Part × ℕ)
merged_from best [] number = best
merged_from best (worker ∷ workers) number = merged_from (earlier_of best (found_at number worker)) workers number

-- the earliest at a price of what workers found in each of so many pieces
abbrev pub results_of : List Worker → ℕ → ℕ → List (Option (List Part × ℕ))
results_of workers least zero = []
results_of workers least (suc number) =
    results_of workers least number ++ kept_at (merged_from None workers number) least ∷ []

-- a construction belongs to no share of some first ones
abbrev pub IsInNone : ℕ → ℕ → List Part → Type 0
IsInNone upto count parts = (number : ℕ) → number < upto → is_elsewhere (share_at number count) parts ≡ true

-- what some first workers found in a piece comes to one construction: each lawful one of their shares is passed
pub record IsMerged (prices : Pricing) (piece : Piece) (upto count least : ℕ) (found : Option (List Part × ℕ)) :
    Type 0 where
  pub begun : IsBegun prices.edition prices.trip piece least found
  pub passed : (parts : List Part) (price : ℕ) → IsLawful prices.edition prices.trip parts price
      → BeginsIn prices.edition prices.trip piece parts → IsInNone upto count parts ⊎ IsPassed least found parts price

-- what is prepared holds together: the workers are as many as the pieces and the results, have seats at the one word,
-- and the pieces share out the first-part choices; no price is less than the floor
pub record IsPrepared (prices : Pricing) (word : TableId) (workers : List Worker) (pieces : List Piece)
    (results : List (Option (List Part × ℕ))) : Type 0 where
  pub one_word : word.words ≡ 1
  pub low : floor_of prices ≤ NO_PRICE
  pub some : 1 ≤ length pieces
  pub few : length pieces ≤ MOST_PIECES
  pub each : length workers ≡ length pieces
  pub full : length results ≡ length pieces
  pub seated : All (IsSeated word (floor_of prices)) workers
  pub split : ArePieces (choice_count prices) pieces
