-- the least is under the steps to points before this one
use Rattle.std.proofs.Common.{ℕ, ◌+◌, ◌<◌}
use Rattle.fare_bounds.specs.Covers.{rest_at}
use Rattle.fare_legs.specs.Costs.{IsUpTo}
use Rattle.fare_homing.proofs.reaching.least_onward.Given as goal

abbrev pub invariant-loop-b : goal.invariant-loop-b
invariant-loop-b l = (b x y : ℕ) → l.i < b → b < l.b → IsUpTo x (rest_at l.steps b) → IsUpTo y (rest_at l.rests b) → IsUpTo (x + y) l.least
