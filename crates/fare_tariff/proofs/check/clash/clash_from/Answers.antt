-- a fare's own key and season, and any other record's own key
use Rattle.std.proofs.Common.{ap}
use Rattle.fare_records.specs.Record.{FareRecord}
use Rattle.fare_tariff.proofs.KindTests.{clash_fare}
use Rattle.fare_tariff.proofs.SameKind.{first_fares, clash_other}
use Rattle.fare_tariff.proofs.check.clash.clash_from.Goals as goal

pub clashes-requires : goal.clashes-requires
clashes-requires c =
    first_fares c.args.filed.now c.args.place c.args.one.now c.in-Fare.fare _ c.args.first c.requires.at c.in-Fare.is c.key_of.ensures c.requires.first

pub returns-in-Fare : goal.returns-in-Fare
returns-in-Fare c =
    clash_fare _ c.args.one.now c.in-Fare.fare _ _ _ c.in-Fare.is c.key_of.ensures (ap (λ (f : FareRecord). f.season) c.fare.view_is) c.clashes.ensures

pub returns-in_default : goal.returns-in_default
returns-in_default c =
    clash_other c.args.filed.now c.args.place c.args.one.now c.args.first _ _ c.in_default.not-Fare c.requires.at c.requires.first c.before-in_default.ensures.before c.is_some.ensures
