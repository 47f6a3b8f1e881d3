use Rattle.std.proofs.Common.{◌∙◌, None, arith}
use Rattle.fare_branch.proofs.DiveLemmas.{dived_none, dived_then}
use Rattle.fare_branch.proofs.opening.dives.Goals as goal

pub loop-ceiling-init : goal.loop-ceiling-init
loop-ceiling-init g c = record { fixed = c.first_dive-best.ensures.fixed; homing = c.first_dive-best.ensures.homing; dived = c.first_dive-best.ensures.dived }

pub loop-ceiling-preserved : goal.loop-ceiling-preserved
loop-ceiling-preserved g c = record {
  fixed = c.try_dive-best.ensures.fixed ∙ c.seen-least.ensures.fixed ∙ c.loop-ceiling.invariant.fixed;
  homing = c.remake.ensures.homings;
  dived = dived_then c.args.table.now.edition c.args.table.now.trip c.args.piece (g.B.Bound.least c.args.bound.now) (g.B.Bound.least c.loop-ceiling.bound) (g.B.Bound.least c.seen-least.new.self) (g.B.Bound.least c.try_dive-best.new.bound) None c.loop-ceiling.best c.try_dive-best.result (omega arith)
      c.loop-ceiling.invariant.dived c.try_dive-best.ensures.dived;
}

pub returns-in_default-clause-dived : goal.returns-in_default-clause-dived
returns-in_default-clause-dived g c =
    dived_then c.args.table.now.edition c.args.table.now.trip c.args.piece (g.B.Bound.least c.args.bound.now) (g.B.Bound.least c.loop-ceiling.bound) (g.B.Bound.least c.seen-least.new.self) (g.B.Bound.least c.seen-least.new.self) None c.loop-ceiling.best c.loop-ceiling.best (omega arith)
    c.loop-ceiling.invariant.dived (dived_none c.args.table.now.edition c.args.table.now.trip c.args.piece (g.B.Bound.least c.seen-least.new.self) c.loop-ceiling.best)

pub returns-then-is_none-clause-dived : goal.returns-then-is_none-clause-dived
returns-then-is_none-clause-dived g c =
    dived_then c.args.table.now.edition c.args.table.now.trip c.args.piece (g.B.Bound.least c.args.bound.now) (g.B.Bound.least c.loop-ceiling.bound) (g.B.Bound.least c.seen-least.new.self) (g.B.Bound.least c.seen-least.new.self) None c.loop-ceiling.best c.loop-ceiling.best (omega arith)
    c.loop-ceiling.invariant.dived (dived_none c.args.table.now.edition c.args.table.now.trip c.args.piece (g.B.Bound.least c.seen-least.new.self) c.loop-ceiling.best)
