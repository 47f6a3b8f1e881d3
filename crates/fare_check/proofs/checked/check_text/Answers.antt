-- the law, and the text of a broken one
use Rattle.std.proofs.Common.{rules, ◌≡◌, Err, ap, sym, ◌∙◌}
use Rattle.fare_csv.specs.Rows.{rows_of}
use Rattle.fare_csv.specs.TariffText.{tariff_of}
use Rattle.fare_check.specs.Faults.{fault_in}
use Rattle.fare_check.proofs.Law.{first_is_editions}
use Rattle.fare_check.proofs.Pieces.{if_ok}
use Rattle.fare_check.proofs.Texts.{first_of_broken, text_of_broken, unread_broken}
use Rattle.fare_check.proofs.checked.check_text.Goals as goal

pub returns-in-Ok-clause-first : goal.returns-in-Ok-clause-first
returns-in-Ok-clause-first g c = if_ok _ c.check_spelled.result _ _ (sym (first_is_editions c.args.bytes.now)) c.check_spelled.ensures.fault

pub returns-in_ok-reading_lines-in-Err : goal.returns-in_ok-reading_lines-in-Err
returns-in_ok-reading_lines-in-Err g c =
    let unread : tariff_of (rows_of c.args.bytes.now) ≡ Err c.in-Err.fault = search rules in
    let broken = unread_broken c.args.bytes.now c.in-Err.fault unread in
    record {
      text = c.in_ok-reading_lines-in-Err.ensures ∙ text_of_broken c.args.bytes.now c.in-Err.fault broken;
      fault = sym (ap fault_in broken);
      first = first_of_broken c.args.bytes.now c.in-Err.fault broken;
    }
