-- What workers have found: one row for each, and what follows for all of them.
use Rattle.std.specs.Prelude.{◌≡◌, ℕ, ◌<◌, ◌≤◌, Bool, true, false, List, [], ◌∷◌, Option, Some, None, Contains, All, map}
use Rattle.std.specs.Prelude.{length, slice_get, if◌then◌else◌}
use Rattle.fare_trip.specs.Itinerary.{Itinerary}
use Rattle.fare_tariff.specs.Tariff.{Tariff}
use Rattle.fare_rules.specs.declared.part.Part.{Part}
use Rattle.fare_rules.specs.Completion.{first_part_choices}
use Rattle.fare_rules.specs.Order.{is_before}
use Rattle.fare_component.specs.Table.{Pricing}
use Rattle.fare_branch.specs.declared.bound.TheConstants.{NO_PRICE}
use Rattle.fare_branch.specs.declared.pieces.Piece.{Piece}
use Rattle.fare_branch.specs.Search.{IsSearched}
use Rattle.fare_branch.specs.LeastPrice.{least_price}

-- a worker's piece, the least price that is known, and what was found there
pub record Row : Type 0 where
  pub piece : Piece
  pub least : ℕ
  pub result : Option (List Part × ℕ)

-- what is prepared: an edition with a trip that is priced in it, and the rows of the workers
pub record Preparation : Type 0 where
  pub prices : Pricing
  pub rows : List Row

-- the piece of a row
abbrev pub piece_of : Row → Piece
piece_of row = row.piece

-- what was found in a row
abbrev pub result_of : Row → Option (List Part × ℕ)
result_of row = row.result

-- the rows of pieces, by the least price known and what was found at it in each
abbrev pub rows_of : List Piece → ℕ → List (Option (List Part × ℕ)) → List Row
rows_of [] least results = []
rows_of (piece ∷ pieces) least [] = []
rows_of (piece ∷ pieces) least (result ∷ results) =
    record { piece = piece; least = least; result = result } ∷ rows_of pieces least results

-- the row of a worker that has not begun
abbrev pub fresh : Piece → Row
fresh piece = record { piece = piece; least = NO_PRICE; result = None }

-- a number lies in the piece of a place
pub record LiesAt (pieces : List Piece) (number place : ℕ) : Type 0 where
  pub piece : Piece
  pub there : slice_get pieces place ≡ Some piece
  pub above : piece.first ≤ number
  pub below : number < piece.past

-- a number lies in exactly one piece
pub record LiesInOne (pieces : List Piece) (number : ℕ) : Type 0 where
  pub place : ℕ
  pub lies : LiesAt pieces number place
  pub only : (other : ℕ) → LiesAt pieces number other → other ≡ place

-- each of some numbers from 0 on lies in exactly one piece
abbrev pub ArePieces : ℕ → List Piece → Type 0
ArePieces count pieces = (number : ℕ) → number < count → LiesInOne pieces number

-- how many first-part choices there are
abbrev pub choice_count : Pricing → ℕ
choice_count prices = length (first_part_choices prices.edition prices.trip)

-- the piece of a worker was searched to the least price that is known, which is no less than that of any lawful
-- construction
pub record IsRun (prices : Pricing) (row : Row) : Type 0 where
  pub floor : least_price prices.edition prices.trip ≤ row.least
  pub searched : IsSearched prices.edition prices.trip row.piece row.least row.result

-- a construction with its price is not after what was found
abbrev pub IsNotAfter : List Part × ℕ → Option (List Part × ℕ) → Type 0
IsNotAfter best None = Unit {0}
IsNotAfter best (Some other) = is_before other.0 other.1 best.0 best.1 ≡ false

-- a construction with its price is before the best so far, or there is none
abbrev pub is_earlier : List Part → ℕ → Option (List Part × ℕ) → Bool
is_earlier parts price None = true
is_earlier parts price (Some best) = is_before parts price best.0 best.1

-- what a worker found, where it is before the best so far or there is none, and else the best so far
abbrev pub earlier_of : Option (List Part × ℕ) → Option (List Part × ℕ) → Option (List Part × ℕ)
earlier_of best None = best
earlier_of best (Some found) = if is_earlier found.0 found.1 best then Some found else best

-- an answer is the earliest of some results: one that none is before, or nothing where none has found anything
abbrev pub IsEarliest : List (Option (List Part × ℕ)) → Option (List Part × ℕ) → Type 0
IsEarliest results None = All (λ result. result ≡ None) results
IsEarliest results (Some best) = Contains results (Some best) × All (IsNotAfter best) results

-- what is prepared is fresh: the trip in the edition, with a row for each worker that has not begun, and pieces that
-- share out the first-part choices
pub record IsFresh (tariff : Tariff) (trip : Itinerary) (workers : ℕ) (made : Preparation) : Type 0 where
  pub prices : made.prices ≡ record { edition = tariff; trip = trip }
  pub count : length made.rows ≡ workers
  pub rows : made.rows ≡ map fresh (map piece_of made.rows)
  pub pieces : ArePieces (length (first_part_choices tariff trip)) (map piece_of made.rows)
