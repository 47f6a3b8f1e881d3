use Rattle.std.proofs.Common.{◌∙◌, arith, sym}
use Rattle.fare_audit.proofs.LegLemmas.{difference_passes, difference_stops}
use Rattle.fare_audit.proofs.differing.first_unlike.Goals as goal

pub returns-then-differs_at : goal.returns-then-differs_at
returns-then-differs_at c =
    let differs = sym c.differs_at.ensures ∙ c.if-differs_at.true in
    sym (difference_stops c.args.trip.now c.args.legs.now c.loop-i.i c.index-legs-i.result (omega arith) c.index-legs-i.is differs) ∙ c.loop-i.invariant

pub loop-i-preserved : goal.loop-i-preserved
loop-i-preserved c =
    let agrees = sym c.differs_at.ensures ∙ c.if-differs_at.false in
    sym (difference_passes c.args.trip.now c.args.legs.now c.loop-i.i c.index-legs-i.result (omega arith) c.index-legs-i.is agrees) ∙ c.loop-i.invariant
