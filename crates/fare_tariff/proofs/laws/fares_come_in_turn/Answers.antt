-- the k-th fare is one of the edition, which has no fault
use Rattle.fare_tariff.proofs.FoundFares.{filed_nth}
use Rattle.fare_tariff.proofs.NextFares.{next_of_nth}
use Rattle.fare_tariff.proofs.laws.fares_come_in_turn.Goals as goal

pub returns-clause-next : goal.returns-clause-next
returns-clause-next c = λ from to ind k n. next_of_nth c.args.edition.now from to ind k n c.records-records.ensures.valid.no_fault

pub returns-clause-few : goal.returns-clause-few
returns-clause-few c = λ from to ind k n found. (filed_nth c.args.edition.now from to ind k n c.records-records.ensures.valid.no_fault found).1
