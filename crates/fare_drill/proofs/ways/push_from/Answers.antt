-- the ways to the next city
use Rattle.std.proofs.Common.{refl, arith}
use Rattle.fare_drill.specs.Fares.{ways_to}
use Rattle.fare_drill.proofs.Growing.{joined_more}
use Rattle.fare_drill.proofs.ways.push_from.Goals as goal

pub loop-to-preserved : goal.loop-to-preserved
loop-to-preserved c =
    joined_more (ways_to c.args.from) _ _ _ 0 c.loop-to.to c.loop-to.to _ c.loop-to.invariant c.in_ok-push_to.ensures (omega arith) refl
