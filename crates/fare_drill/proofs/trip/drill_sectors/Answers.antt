-- the sector that reaches the next point
use Rattle.std.proofs.Common.{[], ◌-◌, arith}
use Rattle.fare_drill.specs.Drill.{drill_sector}
use Rattle.fare_drill.proofs.Growing.{mapped_more}
use Rattle.fare_drill.proofs.trip.drill_sectors.Goals as goal

pub loop-i-preserved : goal.loop-i-preserved
loop-i-preserved c =
    (mapped_more (drill_sector c.args.sectors) [] _ _ 1 (c.loop-i.i - 1) c.loop-i.i _ _ c.loop-i.invariant.0 c.push.ensures.items c.drill_sector.ensures (omega arith) (omega arith), omega (arith, c.loop-i.invariant.1))
