-- the numbers so far are over the unit
use Rattle.std.proofs.Common.{◌≡◌, ℕ, ◌+◌, ◌<◌, ◌≤◌, length}
use Rattle.fare_bounds.specs.Covers.{rest_at}
use Rattle.fare_floors.specs.Ahead.{must_go_from}
use Rattle.fare_floors.specs.Stack.{IsOverOpen}
use Rattle.fare_floors.proofs.ahead.half_row.Given as goal

abbrev pub invariant-loop-i : goal.invariant-loop-i
invariant-loop-i l = record {
  long : length l.row ≡ 17;
  known : (i : ℕ) → l.fn.from ≤ i → i < l.i → IsOverOpen l.trip l.homing (i + 1) l.begun i l.start (must_go_from l.table.edition l.table.trip l.start l.begun i) i l.homes (rest_at l.below i) (rest_at l.row i);
}
