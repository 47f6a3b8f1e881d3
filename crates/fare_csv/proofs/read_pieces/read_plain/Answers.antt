use Rattle.std.proofs.Common.{◌≡◌, true, length, rules}
use Rattle.std.specs.Prelude.{◌==◌}
use Rattle.fare_csv.specs.Pieces.{is_unmarked}
use Rattle.fare_csv.proofs.LinesTaken.{line-shortens, read-all, read-more, read-none}
use Rattle.fare_csv.proofs.read_pieces.read_plain.Goals as goal

pub loop-left-init : goal.loop-left-init
loop-left-init c = rw c.in_ok-records.ensures.items (read-none c.args.version c.args.piece.now)

pub loop-left-smaller : goal.loop-left-smaller
loop-left-smaller c = line-shortens c.take_line.new.row c.loop-left.left.now c.in_ok-left.left.now c.in_ok-left.ensures.line

pub loop-left-preserved : goal.loop-left-preserved
loop-left-preserved c =
    read-more c.args.version c.loop-left.records.items c.push.new.self.items c.in_ok-read_fields.field-0 c.take_line.new.row c.loop-left.left.now
    c.in_ok-left.left.now c.args.piece.now c.loop-left.invariant c.in_ok-left.ensures.line c.in_ok-left.ensures.plain c.in_ok-read_fields.ensures
    c.in_ok-push.ensures.items

pub returns : goal.returns
returns c =
    let empty : (length c.loop-left.left.now == 0) ≡ true = search rules in
    let unmarked : is_unmarked c.args.piece.now ≡ true = search rules in
    read-all c.args.version c.loop-left.records.items c.loop-left.left.now c.args.piece.now c.loop-left.invariant empty unmarked
