-- none of the fares that were passed overlaps, and they are counted
use Rattle.fare_records.proofs.Chain.{rest_from}
use Rattle.fare_tariff.proofs.Clashes.{IsClear}
use Rattle.fare_tariff.proofs.check.clash.clashes.Given as goal

abbrev pub invariant-loop-at : goal.invariant-loop-at
invariant-loop-at l = IsClear l.filed l.place l.key l.fn.season l.passed l.at

abbrev pub decreases-loop-at : goal.decreases-loop-at
decreases-loop-at l = rest_from l.filed l.at
