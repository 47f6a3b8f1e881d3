use Rattle.std.proofs.Common.{List, sym, subst}
use Rattle.fare_rules.specs.FirstK.{Priced, IsFirstK}
use Rattle.fare_best.proofs.WalkedLemmas.{first_of_none}
use Rattle.fare_best.proofs.first.fill.Goals as goal

pub returns-in_default : goal.returns-in_default
returns-in_default c =
    let P : List Priced → Type 0 = λ found. IsFirstK c.args.table.now.edition c.args.table.now.trip c.args.k found in
    subst P (sym c.requires.none) (first_of_none c.args.table.now.edition c.args.table.now.trip c.args.k c.args.k c.in_default.ensures)
