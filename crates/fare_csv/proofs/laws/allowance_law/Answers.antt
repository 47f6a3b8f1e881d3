use Rattle.std.proofs.Common.{arith}
use Rattle.fare_csv.proofs.RecordsReadBack.{allowance_reads_back}
use Rattle.fare_csv.proofs.laws.allowance_law.Goals as goal

pub returns : goal.returns
returns c =
    rw (← c.allowance.view_is) (allowance_reads_back _ c.text-from.ensures.form c.text-to.ensures.form c.text-ind.ensures.read_back c.via_text-via.ensures.plain c.via_text-via.ensures.read_back (omega (arith, c.allowance.invariant)) (c.number_text-miles.ensures.read_back 99_999 c.allowance.invariant))
