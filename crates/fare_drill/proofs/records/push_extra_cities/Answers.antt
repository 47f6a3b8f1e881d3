-- the record of the next extra city
use Rattle.std.proofs.Common.{refl, arith}
use Rattle.fare_drill.specs.Cities.{extra_record}
use Rattle.fare_drill.proofs.Growing.{mapped_more}
use Rattle.fare_drill.proofs.records.push_extra_cities.Goals as goal

pub loop-i-preserved : goal.loop-i-preserved
loop-i-preserved c =
    mapped_more extra_record _ _ _ 0 c.loop-i.i c.loop-i.i _ _ c.loop-i.invariant c.in_ok-push.ensures.items c.extra_record.ensures (omega arith) refl
