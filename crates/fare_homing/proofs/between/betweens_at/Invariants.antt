-- the numbers before this point are under the parts between
use Rattle.std.proofs.Common.{◌≡◌, ℕ, ◌+◌, ◌<◌, false, length}
use Rattle.fare_bounds.specs.Covers.{rest_at}
use Rattle.fare_legs.specs.Costs.{IsUpTo, is_same_city}
use Rattle.fare_homing.specs.HomingRows.{IsBetween}
use Rattle.fare_homing.specs.Rows.{closing_from}
use Rattle.fare_homing.proofs.between.betweens_at.Given as goal

abbrev pub invariant-loop-j : goal.invariant-loop-j
invariant-loop-j l = record {
  long : length l.least ≡ 17;
  between : (b j x y : ℕ) → l.start.point < b → b < j → j < l.j → is_same_city l.table.trip j b ≡ false
      → IsBetween l.table.edition l.table.trip l.homing.unit_ceiling l.start.point j b x → IsUpTo y (closing_from l.homing b b j) → IsUpTo (x + y) (rest_at l.least j);
}
