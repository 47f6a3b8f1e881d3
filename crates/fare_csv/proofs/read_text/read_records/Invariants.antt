use Rattle.std.proofs.Common.{◌≡◌, length}
use Rattle.fare_csv.specs.TariffText.{records_of}
use Rattle.fare_csv.proofs.RecordsLemmas.{behind}
use Rattle.fare_csv.proofs.read_text.read_records.Given as goal

abbrev pub invariant-loop-row : goal.invariant-loop-row
invariant-loop-row l = behind l.records.items (records_of l.version l.number l.rows) ≡ records_of l.version 2 l.fn.rows

abbrev pub decreases-loop-row : goal.decreases-loop-row
decreases-loop-row l = length l.rows
