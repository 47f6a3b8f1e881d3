-- what was found begins in the piece
use Rattle.std.specs.Prelude.{IfSome}
use Rattle.fare_branch.specs.Dive.{StartsIn}
use Rattle.fare_branch.proofs.diving.least_by_choices.Given as goal

abbrev pub invariant-loop-number : goal.invariant-loop-number
invariant-loop-number l = IfSome l.found (StartsIn l.fn.stage.table.now l.fn.piece)
