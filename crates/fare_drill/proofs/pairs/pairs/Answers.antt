-- the pairs of the next number
use Rattle.std.proofs.Common.{[], refl, arith}
use Rattle.fare_drill.specs.Miles.{pairs_from}
use Rattle.fare_drill.proofs.Growing.{joined_more}
use Rattle.fare_drill.proofs.pairs.pairs.Goals as goal

pub loop-first-preserved : goal.loop-first-preserved
loop-first-preserved c =
    joined_more (pairs_from c.args.count) [] _ _ 0 c.loop-first.first c.loop-first.first _ c.loop-first.invariant c.in_ok-push_from.ensures (omega arith) refl
