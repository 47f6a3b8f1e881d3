-- the lines of the records before this one that the others don't hold, and how many they are
use Rattle.std.proofs.Common.{◌≡◌, ◌≤◌, length, take}
use Rattle.std.specs.List.{flat_map}
use Rattle.fare_changes.specs.Diff.{only_in}
use Rattle.fare_changes.specs.DiffText.{marked}
use Rattle.fare_changes.proofs.missing.lines_of_missing.Given as goal

abbrev pub invariant-loop-one : goal.invariant-loop-one
invariant-loop-one l = record {
  text : l.lines.text.items ≡ flat_map (marked l.sign) (only_in (take l.one-index l.records) l.others);
  count : l.lines.count ≡ length (only_in (take l.one-index l.records) l.others);
  few : l.lines.count ≤ l.one-index;
}
