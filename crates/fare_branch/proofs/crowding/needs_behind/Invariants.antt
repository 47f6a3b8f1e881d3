-- the numbers are known from this point on
use Rattle.std.proofs.Common.{◌≡◌, length}
use Rattle.fare_branch.specs.Crowding.{AreNeeds}
use Rattle.fare_branch.proofs.crowding.needs_behind.Given as goal

abbrev pub invariant-loop-i : goal.invariant-loop-i
invariant-loop-i l = record {
  long : length l.needs ≡ 17;
  known : AreNeeds l.crowding.table.now.edition l.crowding.table.now.trip l.crowding.lonely.now l.crowding.front.now l.i l.needs;
}
