use Rattle.std.proofs.Common.{arith}
use Rattle.fare_changes.proofs.Answered.{compared_further}
use Rattle.fare_changes.proofs.compare.compared_items.Goals as goal

pub loop-done-preserved : goal.loop-done-preserved
loop-done-preserved g c = record {
  within = omega arith;
  so_far = compared_further c.args.comparer.now.old.now c.args.comparer.now.new.now c.args.items.now c.loop-done.done _
      c.loop-done.compared.items c.in_ok-add_compared.ensures.0 c.add_compared.new.compared.items (omega arith)
      c.loop-done.invariant.so_far c.in_ok-add_compared.ensures.1 c.in_ok-add_compared.ensures.2;
}
