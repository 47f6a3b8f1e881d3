use Rattle.fare_branch.proofs.DiveLemmas.{dived_none, dived_one}
use Rattle.fare_branch.proofs.opening.try_dive.Goals as goal

pub returns-in-None-clause-dived : goal.returns-in-None-clause-dived
returns-in-None-clause-dived g c = dived_none c.args.table.now.edition c.args.table.now.trip c.args.piece (g.B.Bound.least c.args.bound.now) c.args.best

pub returns-in-Some-clause-dived : goal.returns-in-Some-clause-dived
returns-in-Some-clause-dived g c = dived_one c.args.table.now.edition c.args.table.now.trip c.args.piece c.in-Some.front (g.B.Bound.least c.args.bound.now) (g.B.Bound.least c.keep.new.bound) c.args.best c.keep.result c.in-Some.ensures.begins c.keep.ensures.walk
