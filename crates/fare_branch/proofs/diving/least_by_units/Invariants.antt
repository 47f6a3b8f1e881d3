-- what was found goes on from the parts
use Rattle.std.specs.Prelude.{IfSome}
use Rattle.fare_branch.specs.Dive.{GoesFrom}
use Rattle.fare_branch.proofs.diving.least_by_units.Given as goal

abbrev pub invariant-loop-unit : goal.invariant-loop-unit
invariant-loop-unit l = IfSome l.found (GoesFrom l.fn.stage.table.now l.fn.stage.front.now)
