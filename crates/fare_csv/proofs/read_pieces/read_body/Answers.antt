use Rattle.std.proofs.Common.{◌≡◌, true, rules}
use Rattle.fare_csv.specs.Pieces.{is_unmarked}
use Rattle.fare_csv.proofs.PiecesRead.{pieces_records, pieces_unmarked}
use Rattle.fare_csv.proofs.read_pieces.read_body.Goals as goal

pub returns-clause-reading : goal.returns-clause-reading
returns-clause-reading g c =
    let each = rw c.as_slice.ensures.value at c.in_ok-read.ensures in
    let unmarked : is_unmarked c.in_ok-cut.cut.left.now ≡ true = search rules in
    rw c.in_ok-append.ensures.items
    (pieces_records c.args.version c.in_ok-cut.cut.pieces.items c.in_ok-read.read.items c.in_ok-cut.cut.left.now c.args.text.now
    c.in_ok-records.records.items c.in_ok-last.last.items each c.in_ok-records.ensures unmarked c.in_ok-last.ensures c.in_ok-cut.ensures)

pub returns-clause-unmarked : goal.returns-clause-unmarked
returns-clause-unmarked g c =
    let each = rw c.as_slice.ensures.value at c.in_ok-read.ensures in
    let unmarked : is_unmarked c.in_ok-cut.cut.left.now ≡ true = search rules in
    pieces_unmarked c.args.version c.in_ok-cut.cut.pieces.items c.in_ok-read.read.items c.in_ok-cut.cut.left.now c.args.text.now
    c.in_ok-records.records.items c.in_ok-last.last.items each c.in_ok-records.ensures unmarked c.in_ok-last.ensures c.in_ok-cut.ensures
