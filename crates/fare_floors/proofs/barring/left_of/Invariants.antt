-- the set is the one behind the parts so far
use Rattle.std.proofs.Common.{◌≡◌, ◌-◌, ◌<◌}
use Rattle.fare_legs.specs.declared.limits.TheConstants.{MOST_SETS}
use Rattle.fare_floors.specs.Barring.{set_after}
use Rattle.fare_floors.proofs.barring.left_of.Given as goal

abbrev pub invariant-loop-k : goal.invariant-loop-k
invariant-loop-k l = record {
  within : l.set < MOST_SETS;
  known : l.set ≡ set_after l.table.edition l.homing.onwards l.parts (l.k - 1);
}
