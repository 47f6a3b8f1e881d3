use Rattle.std.proofs.Common.{ℕ, List, Option, subst}
use Rattle.fare_rules.specs.declared.part.Part.{Part}
use Rattle.fare_units.specs.Walk.{IsList}
use Rattle.fare_branch.specs.Sought.{IsWalk}
use Rattle.fare_branch.specs.Walked.{IsHeld, IsPassed}
use Rattle.fare_branch.proofs.ShareLemmas.{walk_in}
use Rattle.fare_branch.proofs.best_so_far.BestSoFarSeeker.take.Goals as goal

pub returns-clause-walk : goal.returns-clause-walk
returns-clause-walk g c =
    let P : Option (List Part × ℕ) → Type 0 = λ best. IsWalk c.args.table.now.edition c.args.table.now.trip (IsList c.args.front.now) (IsPassed (g.B.Bound.least c.args.bound.now) best) (IsHeld best) (IsPassed (g.B.Bound.least c.keep-self.new.bound) c.keep-self.result) (IsHeld c.keep-self.result) in
    walk_in c.args.self.now.share c.args.table.now.edition c.args.table.now.trip (IsList c.args.front.now) (g.B.Bound.least c.args.bound.now) (g.B.Bound.least c.keep-self.new.bound) c.args.self.now.found c.keep-self.result
    (subst P c.take-best.ensures.value c.keep-self.ensures.walk.walk)
