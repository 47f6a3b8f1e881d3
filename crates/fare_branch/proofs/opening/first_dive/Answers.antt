use Rattle.std.proofs.Common.{None, arith}
use Rattle.fare_branch.proofs.DiveLemmas.{dived_none, dived_then}
use Rattle.fare_branch.proofs.opening.first_dive.Goals as goal

pub returns-clause-dived : goal.returns-clause-dived
returns-clause-dived g c =
    dived_then c.args.table.now.edition c.args.table.now.trip c.args.piece (g.B.Bound.least c.args.bound.now) (g.B.Bound.least c.try_dive-best.new.bound) (g.B.Bound.least c.seen-least.new.self) (g.B.Bound.least c.seen-least.new.self) None c.try_dive-best.result c.try_dive-best.result (omega arith)
    c.try_dive-best.ensures.dived (dived_none c.args.table.now.edition c.args.table.now.trip c.args.piece (g.B.Bound.least c.seen-least.new.self) c.try_dive-best.result)
