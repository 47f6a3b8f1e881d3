use Rattle.std.proofs.Common.{ap}
use Rattle.fare_trip.specs.declared.sector.Sector.{Sector}
use Rattle.fare_points.proofs.Stretches.{one_more}
use Rattle.fare_points.proofs.stretch.Stretch.next.Goals as goal

pub returns : goal.returns
returns c =
    one_more c.args.edition.now c.args.trip.now c.args.a c.args.b c.args.self c.between-more.result c.and.result c.area_at-area.result c.sector.result.over
    c.requires.rises c.requires.stretch c.area_at-area.ensures (ap (λ (s : Sector). s.over) c.sector.ensures) c.between-more.ensures.atlantic c.between-more.ensures.pacific c.between-more.ensures.within_one c.and.ensures
