-- what was found goes on from the parts
use Rattle.std.specs.Prelude.{IfSome}
use Rattle.fare_branch.specs.Dive.{GoesFrom}
use Rattle.fare_branch.proofs.diving.least_by_ends.Given as goal

abbrev pub invariant-loop-end : goal.invariant-loop-end
invariant-loop-end l = IfSome l.found (GoesFrom l.fn.stage.table.now l.fn.stage.front.now)
