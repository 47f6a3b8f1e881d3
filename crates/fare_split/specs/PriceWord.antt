-- The shared word: what holds of it at every step, and what a step tells.
use Rattle.std.specs.Prelude.{◌≡◌, ℕ, ◌≤◌, min, length, slice_index}
use mathlib.Core.Option.{some}
use lib.ListN.{get_elem?}
use Rattle.atomic_table.specs.Table.{State, Me, Step}
use Rattle.fare_component.specs.Table.{Pricing}
use Rattle.fare_branch.specs.LeastPrice.{least_price}
use Rattle.fare_branch.specs.declared.bound.TheConstants.{NO_PRICE}
use Rattle.fare_split.specs.declared.word.View.{View}

-- the least price of a lawful construction of what is priced, or `NO_PRICE` where none is lawful
abbrev pub floor_of : Pricing → ℕ
floor_of prices = least_price prices.edition prices.trip

-- a view that knows a floor and a least number
abbrev pub view : ℕ → ℕ → View
view floor least = record { floor = floor; least = least }

-- the view of the first seat: it knows no price
abbrev pub first_view : ℕ → View
first_view floor = view floor NO_PRICE

-- a view knows the floor, and no less than a word
abbrev pub Fits : ℕ → ℕ → View → Type 0
Fits floor word view = (word ≤ view.least) × (view.floor ≡ floor)

-- there is one word; it is no less than the floor, and no more than the least number in any view; and all views know
-- the floor
pub record IsPriceWord (floor : ℕ) (state : State (Unit {0}) View) : Type 0 where
  pub one : length state.words ≡ 1
  pub low : floor ≤ slice_index state.words 0
  pub views : (seat : ℕ) (view : View) → get_elem? state.views seat ≡ some view
      → Fits floor (slice_index state.words 0) view

-- a seat
abbrev pub Known : Type 0
Known = Me (Unit {0}) View

-- what a load finds is no less than the floor and no more than was known, and is known then
abbrev pub Looks : Step (Unit {0}) → Known → ℕ → Known → Type 0
Looks step before found after =
    (before.0.floor ≤ found) × (found ≤ before.0.least) × (after.0 ≡ view before.0.floor found)

-- a price that is told is known then, where it is less than what was known
abbrev pub Tells : Step (Unit {0}) → Known → ℕ → Known → Type 0
Tells step before found after = after.0 ≡ view before.0.floor (min before.0.least step.first)
