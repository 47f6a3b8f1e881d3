use Rattle.std.proofs.Common.{◌≡◌, length}
use Rattle.fare_csv.specs.Pieces.{records_each}
use Rattle.fare_csv.proofs.RecordsLemmas.{behind}
use Rattle.fare_csv.proofs.read_pieces.read_each.Given as goal

abbrev pub invariant-loop-row : goal.invariant-loop-row
invariant-loop-row l = behind l.records.items (records_each l.version l.rows) ≡ records_each l.version l.fn.rows

abbrev pub decreases-loop-row : goal.decreases-loop-row
decreases-loop-row l = length l.rows
