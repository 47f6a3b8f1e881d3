-- of two such records the later would overlap the earlier
use Rattle.fare_tariff.proofs.FoundFares.{filed_on}
use Rattle.fare_tariff.proofs.OneFare.{one, answered}
use Rattle.fare_tariff.proofs.laws.fare_of_a_day_is_one.Goals as goal

pub returns-clause-one : goal.returns-clause-one
returns-clause-one c = λ key on a b. one c.args.edition.now key on a b c.records-records.ensures.valid.no_fault

pub returns-clause-number : goal.returns-clause-number
returns-clause-number c = λ key on n. (filed_on c.args.edition.now key on n, answered c.args.edition.now key on n c.records-records.ensures.valid.no_fault)
