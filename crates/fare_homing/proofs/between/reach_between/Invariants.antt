-- the least is under the parts between to points before this one
use Rattle.std.proofs.Common.{◌≡◌, ℕ, ◌+◌, ◌<◌, false}
use Rattle.fare_legs.specs.Costs.{IsUpTo, is_same_city}
use Rattle.fare_homing.specs.HomingRows.{IsBetween}
use Rattle.fare_homing.specs.Rows.{closing_from}
use Rattle.fare_homing.proofs.between.reach_between.Given as goal

abbrev pub invariant-loop-b : goal.invariant-loop-b
invariant-loop-b l = (b x y : ℕ) → l.start.point < b → b < l.b → is_same_city l.table.trip l.home b ≡ false
    → IsBetween l.table.edition l.table.trip l.homing.unit_ceiling l.start.point l.home b x → IsUpTo y (closing_from l.homing b b l.home) → IsUpTo (x + y) l.least
