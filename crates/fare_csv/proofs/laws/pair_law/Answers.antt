use Rattle.std.proofs.Common.{arith}
use Rattle.fare_csv.proofs.RecordsReadBack.{pair_reads_back}
use Rattle.fare_csv.proofs.laws.pair_law.Goals as goal

pub returns : goal.returns
returns c =
    rw (← c.pair.view_is) (pair_reads_back _ c.text-from.ensures.form c.text-to.ensures.form (omega (arith, c.pair.invariant)) (c.number_text-miles.ensures.read_back 99_999 c.pair.invariant))
