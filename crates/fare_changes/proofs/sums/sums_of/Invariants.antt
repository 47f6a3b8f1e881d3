-- the sums of the items before this one, each of which adds less than 2^64
use Rattle.std.proofs.Common.{◌≡◌, ◌≤◌, ◌*◌, take, sum_by}
use Rattle.fare_changes.specs.CompareText.{new_total, old_total}
use Rattle.fare_changes.proofs.sums.sums_of.Given as goal

abbrev pub invariant-loop-one : goal.invariant-loop-one
invariant-loop-one l = record {
  old : l.sums.old ≡ sum_by old_total (take l.one-index l.compared);
  new : l.sums.new ≡ sum_by new_total (take l.one-index l.compared);
  old_fits : l.sums.old ≤ 18_446_744_073_709_551_615 * l.one-index;
  new_fits : l.sums.new ≤ 18_446_744_073_709_551_615 * l.one-index;
}
