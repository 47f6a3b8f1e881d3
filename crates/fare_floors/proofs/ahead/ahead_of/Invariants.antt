-- the rows of the units so far
use Rattle.std.proofs.Common.{◌≡◌, ℕ, ◌<◌, ◌≤◌, [], length}
use Rattle.std.specs.Prelude.{slice_index_or}
use Rattle.fare_floors.specs.Ahead.{AreBehindHalf}
use Rattle.fare_floors.proofs.ahead.ahead_of.Given as goal

abbrev pub invariant-loop-unit : goal.invariant-loop-unit
invariant-loop-unit l = record {
  long : length l.half ≡ 18;
  rows : (unit : ℕ) → 1 ≤ unit → unit < l.unit → AreBehindHalf l.table l.homing l.front unit (slice_index_or l.half unit []);
}
