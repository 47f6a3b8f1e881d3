-- the rows of the units before this one are over them
use Rattle.std.proofs.Common.{◌≡◌, ◌<◌, ℕ, [], length}
use Rattle.std.specs.Prelude.{slice_index_or}
use Rattle.fare_floors.specs.Stack.{AreOver}
use Rattle.fare_floors.proofs.stacking.over_units.Given as goal

abbrev pub invariant-loop-unit : goal.invariant-loop-unit
invariant-loop-unit l = record {
  long : length l.over ≡ 18;
  over : (unit : ℕ) → unit < l.unit → AreOver l.table l.homing l.partial unit (slice_index_or l.over unit []);
}
