use Rattle.fare_audit.proofs.DeterminedLemmas.{construction_found, construction_one}
use Rattle.fare_audit.proofs.laws.construction_is_one.Goals as goal

pub returns-clause-one : goal.returns-clause-one
returns-clause-one c = construction_one c.args.edition.now c.fare_of_a_day_is_one.ensures.one

pub returns-clause-found : goal.returns-clause-found
returns-clause-found c = construction_found c.args.edition.now c.fare_of_a_day_is_one.ensures.number
