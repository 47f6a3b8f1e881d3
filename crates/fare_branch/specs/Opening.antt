-- Opening: which price is so far above what all costs at least that a circle minimum may have raised it.
use Rattle.std.specs.Prelude.{ℕ, Bool, false, not, ◌&&◌, ◌/◌, ◌==◌, nat_le, Option, Some, None}
use Rattle.fare_legs.specs.Floor.{capped_sum}
use Rattle.fare_branch.specs.declared.bound.TheConstants.{NO_PRICE}

-- a price is far above a floor, where there is one: it is the price of something, and half as much again or more
abbrev pub is_far : ℕ → Option ℕ → Bool
is_far price None = false
is_far price (Some floor) = not (price == NO_PRICE) && nat_le (capped_sum floor (floor / 2)) price
