-- the fare's own key and season are sought
use Rattle.std.proofs.Common.{ap}
use Rattle.fare_records.specs.Record.{FareRecord}
use Rattle.fare_tariff.proofs.SameKind.{first_over}
use Rattle.fare_tariff.proofs.check.keys.overlap_of.Goals as goal

pub returns-in-Fare : goal.returns-in-Fare
returns-in-Fare c =
    first_over c.args.filed.now c.args.place c.args.one.now c.in-Fare.r _ _ _ _ _ c.in-Fare.is c.key_of.ensures (ap (λ (f : FareRecord). f.season) c.r.view_is) c.first_fare.ensures.place c.before-in-Fare.ensures.before c.number_at.ensures
