-- the numbers before this point are under what one unit costs that ends there
use Rattle.std.proofs.Common.{◌≡◌, ℕ, ◌+◌, ◌<◌, ◌≤◌, true, length}
use Rattle.fare_bounds.specs.Covers.{rest_at}
use Rattle.fare_legs.specs.Barred.{unless_barred}
use Rattle.fare_legs.specs.Costs.{IsUpTo, first_cost, single_cost}
use Rattle.fare_homing.specs.Homing.{homing_at, may_end_at}
use Rattle.fare_homing.specs.HomingRows.{IsPart}
use Rattle.fare_legs.specs.Pairs.{HasPair}
use Rattle.fare_homing.specs.Rows.{begun_from, jaw_from}
use Rattle.fare_homing.proofs.whole.wholes_at.Given as goal

abbrev pub invariant-loop-home : goal.invariant-loop-home
invariant-loop-home l = record {
  long : length l.row ≡ 17;
  alone : (j cost : ℕ) → l.start.behind < j → j < l.home → IsPart l.table.edition l.table.trip (unless_barred l.table.edition l.start.barred.now single_cost) l.start.point j cost → IsUpTo cost (rest_at l.row j);
  first : (b j x y cost : ℕ) → l.start.behind < j → j < l.home → may_end_at l.table.edition l.table.trip l.start.point j ≡ true → IsPart l.table.edition l.table.trip (unless_barred l.table.edition l.start.barred.now first_cost) l.start.point b x → b < j
      → IsUpTo y (homing_at l.table.trip (begun_from l.homing b) (jaw_from l.homing b) l.start.point b j) → x + y ≤ cost → HasPair l.table.edition l.table.trip l.start.barred.now l.start.point j cost → IsUpTo cost (rest_at l.row j);
}
