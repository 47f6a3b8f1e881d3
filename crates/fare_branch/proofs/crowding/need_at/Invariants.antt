-- no more than what the parts that end before this point take
use Rattle.std.proofs.Common.{ℕ, ◌<◌}
use Rattle.std.specs.Prelude.{Contains, slice_index}
use Rattle.fare_component.specs.declared.table.entry.Entry.{Entry}
use Rattle.fare_component.specs.Table.{entries_of}
use Rattle.fare_branch.specs.Crowding.{IsNeedWith}
use Rattle.fare_branch.proofs.crowding.need_at.Given as goal

abbrev pub invariant-loop-b : goal.invariant-loop-b
invariant-loop-b l =
    (b : ℕ) (entry : Entry) → b < l.b → Contains (entries_of l.crowding.table.now.edition l.crowding.table.now.trip l.a b) entry
    → IsNeedWith l.crowding.table.now.edition l.crowding.lonely.now l.crowding.front.now (slice_index l.needs b) entry l.least
