use Rattle.std.proofs.Common.{arith}
use Rattle.fare_csv.proofs.RecordsReadBack.{head_reads_back}
use Rattle.fare_csv.proofs.laws.head_law.Goals as goal

pub returns : goal.returns
returns c =
    rw (← c.number-number.ensures.value, ← c.effective-effective.ensures) (head_reads_back _ _ c.number-number.ensures.above_zero (omega (arith, c.number-number.ensures.in_range)) (c.number_text.ensures.read_back 99_999 c.number-number.ensures.in_range) c.text.ensures.form)
