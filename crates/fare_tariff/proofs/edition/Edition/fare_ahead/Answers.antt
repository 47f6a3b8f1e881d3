-- no other record files a fare of the key on the day
use Rattle.fare_tariff.proofs.edition.Edition.fare_ahead.Goals as goal
use Rattle.std.proofs.Common.{refl, sym}

pub returns-then-files_on : goal.returns-then-files_on
returns-then-files_on c =
    sym ((c.fare_of_a_day_is_one.ensures.number c.args.key.now c.args.on c.in-Some.number).1 (c.if-files_on.ensures refl))
