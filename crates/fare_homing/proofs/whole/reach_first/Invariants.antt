-- the least is under the first parts to points before this one
use Rattle.std.proofs.Common.{ℕ, ◌+◌, ◌<◌}
use Rattle.std.specs.Prelude.{if◌then◌else◌}
use Rattle.fare_bounds.specs.Covers.{rest_at}
use Rattle.fare_legs.specs.Costs.{IsUpTo}
use Rattle.fare_homing.specs.Rows.{begun_from, jaw_from}
use Rattle.fare_homing.proofs.whole.reach_first.Given as goal

abbrev pub invariant-loop-b : goal.invariant-loop-b
invariant-loop-b l = (b x y : ℕ) → l.i < b → b < l.b → IsUpTo x (rest_at l.first b) → IsUpTo y (if l.closes then begun_from l.homing b b l.home else jaw_from l.homing b b l.home) → IsUpTo (x + y) l.least
