use Rattle.std.proofs.Common.{ℕ, sym, subst}
use Rattle.fare_units.specs.Walk.{IsList}
use Rattle.fare_branch.specs.Walked.{IsBestWalk}
use Rattle.fare_branch.proofs.WalkedLemmas.{walk_taken}
use Rattle.fare_branch.proofs.best_so_far.keep.Goals as goal

pub returns-clause-walk : goal.returns-clause-walk
returns-clause-walk g c =
    let P : ℕ → Type 0 = λ n. IsBestWalk c.args.table.now.edition c.args.table.now.trip (IsList c.args.front.now) (g.B.Bound.least c.args.bound.now) c.args.best n c.better.result in
    subst P (sym c.found.ensures.least)
    (walk_taken c.args.table.now.edition c.args.table.now.trip c.args.front.now c.args.price (g.B.Bound.least c.args.bound.now) c.args.best c.better.result c.requires.lawful c.better.ensures)
