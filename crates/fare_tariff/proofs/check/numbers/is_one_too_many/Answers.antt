-- the 64th fare of the cities and the indicator stands before the place
use Rattle.std.proofs.Common.{ap}
use Rattle.fare_records.specs.Record.{FareRecord}
use Rattle.fare_tariff.proofs.SameKind.{one_too_many}
use Rattle.fare_tariff.proofs.check.numbers.is_one_too_many.Goals as goal

pub returns-in-Fare : goal.returns-in-Fare
returns-in-Fare c =
    one_too_many c.args.filed.now c.args.place c.args.one.now c.in-Fare.r _ _ _ _ _ _ c.in-Fare.is
    (ap (λ (f : FareRecord). f.from) c.r.view_is) (ap (λ (f : FareRecord). f.to) c.r.view_is) (ap (λ (f : FareRecord). f.ind) c.r.view_is)
    c.nth_place.ensures.place c.before-in-Fare.ensures.before c.is_some.ensures
