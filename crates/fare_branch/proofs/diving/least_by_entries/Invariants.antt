-- what was found goes on from the parts
use Rattle.std.specs.Prelude.{IfSome}
use Rattle.fare_branch.specs.Dive.{GoesFrom}
use Rattle.fare_branch.proofs.diving.least_by_entries.Given as goal

abbrev pub invariant-loop-entry : goal.invariant-loop-entry
invariant-loop-entry l = IfSome l.found (GoesFrom l.fn.stage.table.now l.fn.stage.front.now)
