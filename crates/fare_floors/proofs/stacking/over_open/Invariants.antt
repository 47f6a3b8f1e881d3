-- the numbers so far are under what is behind their points
use Rattle.std.proofs.Common.{◌≡◌, ℕ, ◌<◌, ◌≤◌, length}
use Rattle.fare_bounds.specs.Covers.{rest_at}
use Rattle.fare_floors.specs.Stack.{IsOverOpen}
use Rattle.fare_floors.proofs.stacking.over_open.Given as goal

abbrev pub invariant-loop-i : goal.invariant-loop-i
invariant-loop-i l = record {
  long : length l.row ≡ 17;
  known : (i : ℕ) → l.fn.from ≤ i → i < l.i → IsOverOpen l.trip l.homing l.fn.from l.opened.closes l.opened.stands l.opened.start l.opened.must i l.homes (rest_at l.behind i) (rest_at l.row i);
}
