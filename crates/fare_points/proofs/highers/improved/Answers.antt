use Rattle.std.proofs.Common.{ap, sym, ◌∙◌}
use Rattle.std.specs.Option.{option_to_list}
use Rattle.fare_points.specs.Improved.{improved}
use Rattle.fare_points.proofs.Highest.{improved_none, improved_one}
use Rattle.fare_points.proofs.highers.improved.Goals as goal

pub returns-in-None-clause-value : goal.returns-in-None-clause-value
returns-in-None-clause-value c =
    sym (ap (λ o. improved c.args.amount c.args.best (option_to_list o)) c.in-None.is ∙ improved_none c.args.amount c.args.best)

pub returns-in-Some-clause-value : goal.returns-in-Some-clause-value
returns-in-Some-clause-value c =
    c.better.ensures.value ∙ sym (improved_one c.args.amount c.args.best c.in-Some.pair)
    ∙ ap (λ o. improved c.args.amount c.args.best (option_to_list o)) (sym c.in-Some.is)
