use Rattle.std.proofs.Common.{refl}
use Rattle.fare_component.proofs.ReachLemmas.{begun}
use Rattle.fare_component.proofs.table.references.Reach.at.Goals as goal

pub returns-clause-right : goal.returns-clause-right
returns-clause-right c = λ tariff trip form. begun tariff trip form c.args.a _ refl refl refl refl
