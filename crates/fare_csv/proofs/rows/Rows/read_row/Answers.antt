use Rattle.fare_csv.proofs.Streaming.{rows_left-read, rows_left-refused}
use Rattle.fare_csv.proofs.rows.Rows.read_row.Goals.{in-Ok, in-Err}
use Rattle.fare_csv.proofs.rows.Rows.read_row.Goals as goal

pub returns-clause-taken : goal.returns-clause-taken
returns-clause-taken c =
    elim c.match-read_byte_record.branch [
      | in-Ok w ↦ rw (w.result-is, ← c.self.view_is) (rows_left-read c.self.inside.reader c.read_byte_record.new.self w.in-Ok.found _ c.self.invariant (λ f. cc (w.in-Ok.ensures.failed f)) w.in-Ok.ensures.reads)
      | in-Err w ↦ rw w.result-is tt
    ]

pub returns-clause-refused : goal.returns-clause-refused
returns-clause-refused c =
    elim c.match-read_byte_record.branch [
      | in-Ok w ↦ rw w.result-is tt
      | in-Err w ↦ rw w.result-is (rows_left-refused c.self.inside.reader c.read_byte_record.new.self _ c.self.invariant (λ f. cc (w.in-Err.ensures.failed f)) w.in-Err.ensures.fails w.in-Err.ensures.why)
    ]
