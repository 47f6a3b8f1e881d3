use Rattle.std.proofs.Common.{ℕ, List, Option, sym, subst, arith}
use Rattle.fare_rules.specs.declared.part.Part.{Part}
use Rattle.fare_branch.specs.Search.{IsSearched}
use Rattle.fare_branch.proofs.ShareLemmas.{whole_searched}
use Rattle.fare_branch.proofs.searching.search.Goals as goal

pub returns-clause-searched : goal.returns-clause-searched
returns-clause-searched g c =
    let P : Option (List Part × ℕ) → Type 0 = λ found. IsSearched c.args.table.now.edition c.args.table.now.trip c.args.piece c.seen-least.result found in
    let Q : ℕ → Type 0 = λ seen. IsSearched c.args.table.now.edition c.args.table.now.trip c.args.piece seen c.kept_at.result in
    subst Q (sym c.seen-least.ensures.least) (subst P (sym c.kept_at.ensures)
    (whole_searched c.args.table.now.edition c.args.table.now.trip c.args.piece (g.B.Bound.least c.found_in-found.new.bound) c.seen-least.result c.found_in-found.result (omega arith) c.found_in-found.ensures.found))
