-- each record has a row behind that of HEAD, and no fault of reading was told
use Rattle.std.proofs.Common.{length, ap, arith, refl}
use Rattle.fare_csv.specs.Rows.{rows_of}
use Rattle.fare_check.proofs.Law.{filed_enough}
use Rattle.fare_check.proofs.Pieces.{if_ok}
use Rattle.fare_check.proofs.Texts.{beside_alone}
use Rattle.fare_check.proofs.checked.beside_lines.Goals as goal

pub tell_beside-requires-clause-enough : goal.tell_beside-requires-clause-enough
tell_beside-requires-clause-enough c = omega (arith, ap length c.requires.records, filed_enough (rows_of c.args.bytes.now) c.requires.read)

pub returns : goal.returns
returns c =
    if_ok _ c.into_text.result _ _
    (beside_alone (rows_of c.args.bytes.now) c.in_ok-version.version c.args.filed.now c.in_ok-version.ensures c.new-report.result c.tell_beside.new.report _
    c.new-report.ensures.text refl c.requires.records c.requires.read c.in_ok-tell_beside.ensures) c.into_text.ensures
