-- no more than what the parts with the entries so far take
use Rattle.std.proofs.Common.{◌≤◌, take}
use Rattle.std.specs.Prelude.{Contains}
use Rattle.fare_component.specs.declared.table.entry.Entry.{Entry}
use Rattle.fare_branch.specs.Crowding.{IsNeedWith}
use Rattle.fare_branch.proofs.crowding.lesser_need.Given as goal

abbrev pub invariant-loop-entry : goal.invariant-loop-entry
invariant-loop-entry l = record {
  kept : l.least ≤ l.initial.least;
  under : (entry : Entry) → Contains (take l.entry-index l.entry-items) entry → IsNeedWith l.crowding.table.now.edition l.crowding.lonely.now l.crowding.front.now l.behind entry l.least;
}
