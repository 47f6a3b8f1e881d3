use Rattle.std.proofs.Common.{length}
use Rattle.fare_csv.proofs.LinesTaken.{IsTaken}
use Rattle.fare_csv.proofs.plain_line.take_line.Given as goal

abbrev pub invariant-loop-first : goal.invariant-loop-first
invariant-loop-first l = IsTaken l.row l.rest l.text

abbrev pub decreases-loop-first : goal.decreases-loop-first
decreases-loop-first l = length l.rest
