use Rattle.std.proofs.Common.{arith, refl}
use Rattle.fare_csv.specs.Lines.{is_plain_row}
use Rattle.fare_csv.proofs.PlainFields.{decimal-plain, rule_id-plain}
use Rattle.fare_csv.proofs.RecordsReadBack.{on_any, rule_reads_back}
use Rattle.fare_csv.proofs.write_record.write_rule.Goals as goal

pub write-requires : goal.write-requires
unfolding is_plain_row
write-requires c =
    rw (c.as_slice.ensures, c.bytes_of.ensures, c.text-id.ensures.text, c.bytes_of-2.ensures, c.number_text-stops.ensures.text, c.bytes_of-3.ensures, c.number_text-transfers.ensures.text, c.bytes_of-4.ensures, c.number_text-advance.ensures.text, c.bytes_of-5.ensures, c.number_text-min_stay.ensures.text, c.bytes_of-6.ensures, c.number_text-max_stay.ensures.text, c.excess_text.ensures.text, c.as_slice-2.ensures.value, c.as_slice-3.ensures.value, rule_id-plain _ c.text-id.ensures.form, decimal-plain c.rule.inside.stops (omega arith), decimal-plain c.rule.inside.transfers (omega arith), decimal-plain c.rule.inside.advance (omega arith), decimal-plain c.rule.inside.min_stay (omega arith), decimal-plain c.rule.inside.max_stay (omega arith), c.excess_text.ensures.plain, c.in_ok-units.ensures.plain, c.in_ok-ends.ensures.plain) refl

pub returns-clause-read_back : goal.returns-clause-read_back
returns-clause-read_back c =
    let is = c.rule.invariant in
    rw (← c.rule.view_is) (on_any _ (rule_reads_back _ is c.text-id.ensures.form
    (record {
      stops = c.number_text-stops.ensures.read_back 16 is.stops;
      transfers = c.number_text-transfers.ensures.read_back 16 is.transfers;
      advance = c.number_text-advance.ensures.read_back 999 is.advance;
      min_stay = c.number_text-min_stay.ensures.read_back 999 is.min_stay;
      max_stay = c.number_text-max_stay.ensures.read_back 999 is.max_stay;
    }) c.in_ok-units.ensures.form c.in_ok-ends.ensures.form))
