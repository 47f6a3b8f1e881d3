use Rattle.fare_rules.proofs.BestLemmas.{one_best}
use Rattle.fare_rules.proofs.ExistenceLemmas.{best_answer}
use Rattle.fare_rules.proofs.laws.order.best_is_one.Goals as goal

pub returns-clause-one : goal.returns-clause-one
returns-clause-one c = one_best

pub returns-clause-some : goal.returns-clause-some
returns-clause-some c = best_answer
