use Rattle.std.proofs.Common.{arith}
use Rattle.fare_csv.proofs.RecordsReadBack.{mileage_reads_back}
use Rattle.fare_csv.proofs.laws.mileage_law.Goals as goal

pub returns : goal.returns
returns c =
    rw (← c.mileage.view_is) (mileage_reads_back _ c.text-from.ensures.form c.text-to.ensures.form c.text-ind.ensures.read_back (omega (arith, c.mileage.invariant)) (c.number_text-miles.ensures.read_back 99_999 c.mileage.invariant))
