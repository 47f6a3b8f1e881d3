use Rattle.std.proofs.Common.{sym, subst}
use Rattle.fare_tariff.specs.Tariff.{Tariff}
use Rattle.fare_branch.specs.Search.{IsPriceOfOne}
use Rattle.fare_why.proofs.Known.{one_of_total}
use Rattle.fare_why.proofs.alternative.total_is_of_one.Goals as goal

pub returns : goal.returns
returns c =
    let asked = c.args.asked.now in
    subst (λ (tariff : Tariff). IsPriceOfOne tariff asked.trip.now c.args.total) (sym c.requires.made)
    (one_of_total asked.edition.now asked.trip.now c.args.term c.args.total
    (λ parts price lawful. c.lawful_stays_lawful.ensures asked.edition.now asked.trip.now parts c.args.term price c.rules_are_in_range.ensures lawful)
    (asked.bound c.args.total c.requires.total) (asked.reached c.args.total c.requires.total))
