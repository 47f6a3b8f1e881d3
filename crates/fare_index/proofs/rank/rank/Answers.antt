-- the search, step by step
use Rattle.std.proofs.Common.{refl}
use Rattle.fare_index.proofs.Halved.{halved_none, halved_up, halved_down, halved_all}
use Rattle.fare_index.proofs.rank.rank.Goals as goal

pub loop-low-init : goal.loop-low-init
loop-low-init c = halved_none c.args.hashes.now c.args.sought _ refl

pub loop-low-preserved-then-hashes-middle : goal.loop-low-preserved-then-hashes-middle
loop-low-preserved-then-hashes-middle c =
    halved_up c.args.hashes.now c.args.sought c.loop-low.low c.loop-low.high _ c.loop-low-test.true refl c.if-hashes-middle.true c.loop-low.invariant

pub loop-low-preserved : goal.loop-low-preserved
loop-low-preserved c =
    halved_down c.args.hashes.now c.args.sought c.loop-low.low c.loop-low.high _ c.loop-low-test.true refl c.if-hashes-middle.false c.loop-low.invariant

pub returns-clause-place : goal.returns-clause-place
returns-clause-place c = halved_all c.args.hashes.now c.args.sought c.loop-low.low c.loop-low.high c.loop-low-test.false c.loop-low.invariant
