-- under what the pairs cost whose first part ends before this point
use Rattle.std.proofs.Common.{ℕ, ◌<◌}
use Rattle.std.specs.Prelude.{Contains}
use Rattle.fare_component.specs.declared.table.entry.Entry.{Entry}
use Rattle.fare_component.specs.Table.{entries_of}
use Rattle.fare_legs.specs.Pairs.{IsUnderPairsOf}
use Rattle.fare_legs.proofs.pairs.least_pair.Given as goal

abbrev pub invariant-loop-end : goal.invariant-loop-end
invariant-loop-end l =
    (end : ℕ) (first : Entry) → end < l.end → Contains (entries_of l.pairing.table.now.edition l.pairing.table.now.trip l.pairing.start end) first → IsUnderPairsOf l.pairing.table.now l.pairing.barred.now l.pairing.start l.pairing.home l.pairing.floor end first l.least
