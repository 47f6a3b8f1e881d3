use Rattle.std.proofs.Common.{ap, sym, ◌∙◌}
use Rattle.fare_trip.specs.declared.sector.Sector.{Sector}
use Rattle.fare_conditions.proofs.SpanLemmas.{by_one, by_many}
use Rattle.fare_conditions.proofs.fares.one_carrier.Goals as goal

pub returns-then-all_carried_by : goal.returns-then-all_carried_by
returns-then-all_carried_by c =
    by_one c.args.trip.now c.args.a c.args.b c.requires.rises c.sector-first.result.carrier
    (ap (λ (s : Sector). s.carrier) c.sector-first.ensures) (sym c.all_carried_by.ensures ∙ c.if-all_carried_by.true)

pub returns-else-all_carried_by : goal.returns-else-all_carried_by
returns-else-all_carried_by c =
    by_many c.args.trip.now c.args.a c.args.b c.requires.rises c.sector-first.result.carrier
    (ap (λ (s : Sector). s.carrier) c.sector-first.ensures) (sym c.all_carried_by.ensures ∙ c.if-all_carried_by.false)
