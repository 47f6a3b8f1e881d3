-- the faults of reading alone
use Rattle.std.proofs.Common.{refl, ◌∙◌}
use Rattle.fare_csv.specs.Rows.{rows_of}
use Rattle.fare_check.proofs.Pieces.{if_ok}
use Rattle.fare_check.proofs.Texts.{reading_alone}
use Rattle.fare_check.proofs.checked.reading_lines.Goals as goal

pub returns : goal.returns
returns g c =
    if_ok _ c.into_text.result _ _
    (reading_alone (rows_of c.args.bytes.now) c.in_ok-version.version c.in_ok-filed.filed c.in_ok-version.ensures c.new-report.result c.tell_reading.new.report _
    c.new-report.ensures.text refl (c.in_ok-filed.ensures ∙ c.new.ensures.items) c.requires c.in_ok-tell_reading.ensures) c.into_text.ensures
