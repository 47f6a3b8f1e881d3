use Rattle.fare_relaxed.proofs.Breaks.{own_rule}
use Rattle.fare_relaxed.proofs.laws.broken_rule_is_its_own.Goals as goal

pub returns : goal.returns
returns c tariff trip parts term relaxed lawful barred = own_rule term tariff trip parts relaxed lawful barred
