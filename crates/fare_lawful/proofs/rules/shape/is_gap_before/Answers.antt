use Rattle.std.proofs.Common.{ap, ◌∙◌}
use Rattle.fare_codes.specs.declared.city.City.{City}
use Rattle.fare_rules.specs.Construction.{start_city, end_city}
use Rattle.fare_rules.specs.Shape.{is_only_gap}
use Rattle.fare_lawful.proofs.rules.shape.is_gap_before.Goals as goal

pub returns : goal.returns
returns c =
    c.is_only_gap.ensures
    ∙ ap (λ (a : City). is_only_gap c.args.edition.now a c.start_city-left.result c.end_city-home.result c.start_city-away.result) c.end_city-reached.ensures
    ∙ ap (λ (a : City). is_only_gap c.args.edition.now (end_city c.args.trip.now c.args.parts.now c.args.k) a c.end_city-home.result c.start_city-away.result) c.start_city-left.ensures
    ∙ ap (λ (a : City). is_only_gap c.args.edition.now (end_city c.args.trip.now c.args.parts.now c.args.k) (start_city c.args.trip.now c.args.parts.now c.args.next) a c.start_city-away.result) c.end_city-home.ensures
    ∙ ap (λ (a : City). is_only_gap c.args.edition.now (end_city c.args.trip.now c.args.parts.now c.args.k) (start_city c.args.trip.now c.args.parts.now c.args.next) (end_city c.args.trip.now c.args.parts.now c.args.next) a) c.start_city-away.ensures
