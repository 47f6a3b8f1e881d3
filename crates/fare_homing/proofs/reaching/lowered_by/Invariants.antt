-- the row is lowered to the steps to points before this one
use Rattle.std.proofs.Common.{ℕ, ◌+◌, ◌<◌}
use Rattle.fare_bounds.specs.Covers.{rest_at}
use Rattle.fare_legs.specs.Costs.{IsUpTo}
use Rattle.fare_homing.specs.Rows.{cell}
use Rattle.fare_homing.proofs.reaching.lowered_by.Given as goal

abbrev pub invariant-loop-b : goal.invariant-loop-b
invariant-loop-b l = record {
  kept : (j most : ℕ) → IsUpTo most (rest_at l.row j) → IsUpTo most (rest_at l.least j);
  under : (b j x y : ℕ) → l.i < b → b < l.b → IsUpTo x (rest_at l.steps b) → IsUpTo y (cell l.behind b j) → IsUpTo (x + y) (rest_at l.least j);
}
