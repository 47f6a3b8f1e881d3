-- a record that is no fare has the key of another where that has its own key
use Rattle.fare_tariff.proofs.SameKind.{first_other}
use Rattle.fare_tariff.proofs.check.keys.first_of_key.Goals as goal

pub returns-in_default : goal.returns-in_default
returns-in_default c = first_other c.args.filed.now c.args.one.now _ _ c.in_default.not-Fare c.key.ensures.key c.first.ensures
