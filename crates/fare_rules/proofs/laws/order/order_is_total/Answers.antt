use Rattle.fare_rules.proofs.BestLemmas.{irreflexive, transitive, total}
use Rattle.fare_rules.proofs.laws.order.order_is_total.Goals as goal

pub returns-clause-irreflexive : goal.returns-clause-irreflexive
returns-clause-irreflexive c = irreflexive

pub returns-clause-transitive : goal.returns-clause-transitive
returns-clause-transitive c = transitive

pub returns-clause-total : goal.returns-clause-total
returns-clause-total c = total
