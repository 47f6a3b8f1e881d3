-- the fault of the row at hand is told, and then what is left
use Rattle.fare_check.specs.CheckText.{line_of}
use Rattle.fare_check.proofs.Told.{all_left, fewer_left, ends_told}
use Rattle.fare_check.proofs.Steps.{row_step, row_end}
use Rattle.fare_check.proofs.reading.tell_rows.Goals as goal

pub loop-row-init : goal.loop-row-init
loop-row-init c = all_left c.args.report.now _

pub loop-row-preserved : goal.loop-row-preserved
loop-row-preserved c =
    let line = line_of c.args.grounds.now.version c.args.grounds.now.filed.now in
    let step = row_step line c.args.grounds.now.version c.loop-row.reached.ended c.behind-reached.result.ended c.loop-row.reached.number c.behind-reached.result.number c.loop-row.rows c.read_row.new.self c.read_row.new.row c.in_ok-read_row.field-0 c.in_ok-fault.fault c.in_ok-read_row.ensures.taken c.if-branch.true c.in_ok-fault.ensures c.behind-reached.ensures.number c.behind-reached.ensures.ended in
    fewer_left _ _ _ _ c.loop-row.invariant step c.in_ok-tell_row.ensures

pub returns : goal.returns
returns c =
    let line = line_of c.args.grounds.now.version c.args.grounds.now.filed.now in
    ends_told c.tell_end.result c.args.report.now c.loop-row.report c.tell_end.new.report _ _ _ c.loop-row.invariant
    (row_end line c.args.grounds.now.version c.loop-row.reached.ended c.loop-row.reached.number c.loop-row.rows c.read_row.new.self c.read_row.new.row c.in_ok-read_row.field-0 c.in_ok-read_row.ensures.taken c.if-branch.false)
    c.tell_end.ensures
