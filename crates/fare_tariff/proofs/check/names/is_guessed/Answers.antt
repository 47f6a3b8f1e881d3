use Rattle.fare_tariff.proofs.FoundByKey.{city_known, told_by}
use Rattle.fare_tariff.proofs.check.names.is_guessed.Goals as goal

pub returns-in-Some : goal.returns-in-Some
returns-in-Some c = λ told.
    city_known c.args.city c.args.filed.now c.in-Some.one.now c.in-Some.ensures (told_by c.city_in.result _ c.is_some.result c.city_in.ensures c.is_some.ensures told)
