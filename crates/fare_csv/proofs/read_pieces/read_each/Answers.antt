use Rattle.std.proofs.Common.{refl}
use Rattle.fare_csv.proofs.RecordsLemmas.{behind-each, behind-followed, behind-last, behind-none}
use Rattle.fare_csv.proofs.read_pieces.read_each.Goals as goal

pub loop-row-init : goal.loop-row-init
loop-row-init c = rw c.in_ok-records.ensures.items (behind-none _)

pub loop-row-preserved : goal.loop-row-preserved
loop-row-preserved c =
    let whole = behind-each c.loop-row.records.items c.args.version c.in_ok-read_row.field-0 c.read_row.new.row c.read_row.new.self c.loop-row.rows _ c.in_ok-read_row.ensures.taken c.if-branch.true c.loop-row.invariant in
    let one = c.in_ok-read_record.ensures in
    let items = c.in_ok-push.ensures.items in
    rw (items, ← behind-followed, ← whole, one) refl

pub returns : goal.returns
returns c = behind-last c.loop-row.records.items c.args.version c.in_ok-read_row.field-0 c.read_row.new.row c.read_row.new.self c.loop-row.rows _ c.in_ok-read_row.ensures.taken c.if-branch.false c.loop-row.invariant
