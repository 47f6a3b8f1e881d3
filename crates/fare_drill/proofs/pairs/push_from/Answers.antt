-- the pair with the next number
use Rattle.std.proofs.Common.{◌+◌, ◌-◌, refl, arith}
use Rattle.fare_drill.specs.Miles.{pair}
use Rattle.fare_drill.proofs.Growing.{mapped_more}
use Rattle.fare_drill.proofs.pairs.push_from.Goals as goal

pub loop-second-preserved : goal.loop-second-preserved
loop-second-preserved c =
    mapped_more (pair c.args.first) _ _ _ (c.args.first + 1) (c.loop-second.second - (c.args.first + 1)) c.loop-second.second _ _ c.loop-second.invariant c.in_ok-push.ensures.items refl (omega arith) (omega arith)
