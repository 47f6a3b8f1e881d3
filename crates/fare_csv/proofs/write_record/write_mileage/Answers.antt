use Rattle.std.proofs.Common.{arith, refl}
use Rattle.fare_csv.specs.Lines.{is_plain_row}
use Rattle.fare_csv.proofs.PlainFields.{city-plain, decimal-plain, indicator-plain}
use Rattle.fare_csv.proofs.RecordsReadBack.{mileage_reads_back, on_any}
use Rattle.fare_csv.proofs.write_record.write_mileage.Goals as goal

pub write-requires : goal.write-requires
unfolding is_plain_row
write-requires c =
    rw (c.as_slice.ensures, c.bytes_of.ensures, c.text-from.ensures.text, c.bytes_of-2.ensures, c.text-to.ensures.text, c.bytes_of-3.ensures, c.text-ind.ensures.text, c.bytes_of-4.ensures, c.number_text-miles.ensures.text, city-plain _ c.text-from.ensures.form, city-plain _ c.text-to.ensures.form, indicator-plain _, decimal-plain c.mileage.inside.miles (omega arith)) refl

pub returns-clause-read_back : goal.returns-clause-read_back
returns-clause-read_back c =
    rw (← c.mileage.view_is) (on_any _ (mileage_reads_back _ c.text-from.ensures.form c.text-to.ensures.form c.text-ind.ensures.read_back (omega (arith, c.mileage.invariant)) (c.number_text-miles.ensures.read_back 99_999 c.mileage.invariant)))
