-- the ways from the next city
use Rattle.std.proofs.Common.{[], refl, arith}
use Rattle.fare_drill.specs.Fares.{ways_from}
use Rattle.fare_drill.proofs.Growing.{joined_more}
use Rattle.fare_drill.proofs.ways.ways.Goals as goal

pub loop-from-preserved : goal.loop-from-preserved
loop-from-preserved c =
    joined_more (ways_from c.args.count) [] _ _ 0 c.loop-from.from c.loop-from.from _ c.loop-from.invariant c.in_ok-push_from.ensures (omega arith) refl
