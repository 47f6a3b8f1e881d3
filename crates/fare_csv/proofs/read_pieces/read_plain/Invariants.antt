use Rattle.std.proofs.Common.{length}
use Rattle.fare_csv.proofs.LinesTaken.{IsReadTo}
use Rattle.fare_csv.proofs.read_pieces.read_plain.Given as goal

abbrev pub invariant-loop-left : goal.invariant-loop-left
invariant-loop-left l = IsReadTo l.version l.records.items l.left l.piece

abbrev pub decreases-loop-left : goal.decreases-loop-left
decreases-loop-left l = length l.left
