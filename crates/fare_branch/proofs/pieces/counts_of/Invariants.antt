-- the counts so far
use Rattle.std.proofs.Common.{◌≡◌, ℕ, ◌≤◌, ◌<◌, length}
use Rattle.std.specs.Prelude.{slice_index}
use Rattle.fare_component.specs.Table.{entries_of}
use Rattle.fare_branch.specs.Beginnings.{outward}
use Rattle.fare_branch.proofs.pieces.counts_of.Given as goal

abbrev pub invariant-loop-end : goal.invariant-loop-end
invariant-loop-end l = record {
  long : length l.counts ≡ 17;
  known : (end : ℕ) → 1 ≤ end → end < l.end → slice_index l.counts end ≡ length (outward (entries_of l.table.edition l.table.trip 0 end));
}
