use Rattle.std.proofs.Common.{map, ap, sym, ◌∙◌}
use Rattle.fare_csv.specs.Rows.{rows_of}
use Rattle.fare_check.specs.CheckText.{line_of}
use Rattle.fare_check.specs.Faults.{findings_from}
use Rattle.fare_check.proofs.Told.{same_told}
use Rattle.fare_check.proofs.Steps.{reading_of_none, reading_of_some}
use Rattle.fare_check.proofs.reading.tell_reading.Goals as goal

pub returns-then-branch : goal.returns-then-branch
returns-then-branch c =
    same_told c.tell_bare.result c.args.report.now c.tell_bare.new.self _ _
    (sym (reading_of_none (line_of c.args.grounds.now.version c.args.grounds.now.filed.now) (rows_of c.args.bytes.now) (c.in_ok-is_empty.ensures.none c.if-branch.true)))
    c.tell_bare.ensures

pub returns : goal.returns
returns c =
    let line = line_of c.args.grounds.now.version c.args.grounds.now.filed.now in
    same_told c.tell_rows.result c.args.report.now c.tell_rows.new.report _ _
    (ap (λ rows. map line (findings_from c.args.grounds.now.version _ 1 rows)) c.new.ensures
    ∙ sym (reading_of_some line (rows_of c.args.bytes.now) c.args.grounds.now.version (c.in_ok-is_empty.ensures.some c.if-branch.false) c.requires))
    c.tell_rows.ensures
