-- what was found so far is ranked
use Rattle.fare_best.specs.Walked.{IsRanked}
use Rattle.fare_best.proofs.first.walk_up.Given as goal

abbrev pub invariant-loop-walk : goal.invariant-loop-walk
invariant-loop-walk l = IsRanked l.table.edition l.table.trip l.fn.k l.found
