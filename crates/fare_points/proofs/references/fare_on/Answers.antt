use Rattle.std.proofs.Common.{ap, ◌∙◌, option_and_then}
use Rattle.fare_tariff.specs.Lookup.{fare_at, fare_number}
use Rattle.fare_points.proofs.references.fare_on.Goals as goal

pub returns-in-Some : goal.returns-in-Some
returns-in-Some c =
    c.fare_at.ensures.fare
    ∙ ap (option_and_then (fare_at c.args.edition.now)) (c.in-Some.ensures ∙ ap (fare_number c.args.edition.now c.args.key.now) c.month_day.ensures)
