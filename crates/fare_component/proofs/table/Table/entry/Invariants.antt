-- no entry so far has the fare
use Rattle.fare_component.proofs.AmongLemmas.{NoneBefore}
use Rattle.fare_component.proofs.table.Table.entry.Given as goal

abbrev pub invariant-loop-entry : goal.invariant-loop-entry
invariant-loop-entry l = NoneBefore l.entry-items l.fn.number l.entry-index
