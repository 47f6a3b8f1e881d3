use Rattle.std.proofs.Common.{sym}
use Rattle.fare_csv.proofs.Streaming.{rows_of-from}
use Rattle.fare_csv.specs.Rows.{rows_if_known}
use Rattle.fare_csv.proofs.rows.Rows.new.Goals as goal

pub returns : goal.returns
unfolding rows_if_known
returns c =
    let reader = c.from_reader-reader.ensures in
    rw (reader.state, reader.source) (sym (rows_of-from c.args.text.now))
