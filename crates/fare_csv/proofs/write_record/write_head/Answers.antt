use Rattle.std.proofs.Common.{arith, refl}
use Rattle.fare_csv.specs.Lines.{is_plain_row}
use Rattle.fare_csv.proofs.PlainFields.{day-plain, decimal-plain}
use Rattle.fare_csv.proofs.RecordsReadBack.{head_reads_back}
use Rattle.fare_csv.proofs.write_record.write_head.Goals as goal

pub write-requires : goal.write-requires
unfolding is_plain_row
write-requires c =
    rw (c.as_slice.ensures, c.as_slice-2.ensures, c.bytes_of.ensures, c.number_text-number.ensures.text, c.bytes_of-2.ensures, c.text-effective.ensures.text, decimal-plain c.args.number (omega arith), day-plain _ c.text-effective.ensures.form) refl

pub returns-clause-read_back : goal.returns-clause-read_back
returns-clause-read_back c =
    head_reads_back c.args.number c.args.effective c.requires.above_zero (omega (arith, c.requires.in_range)) (c.number_text-number.ensures.read_back 99_999 c.requires.in_range) c.text-effective.ensures.form
