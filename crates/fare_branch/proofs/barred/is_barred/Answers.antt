use Rattle.std.proofs.Common.{◌≡◌, ◌∙◌, length}
use Rattle.fare_rules.specs.Construction.{unit_of}
use Rattle.fare_units.specs.Barred.{is_uncombined, is_untimely}
use Rattle.fare_branch.proofs.BarredLemmas.{uncombined_is_none, untimely_is_none}
use Rattle.fare_branch.proofs.barred.is_barred.Goals as goal

pub returns-then-is_uncombined : goal.returns-then-is_uncombined
returns-then-is_uncombined c =
    let same : is_uncombined c.args.table.now.edition c.args.front.now ≡ c.is_uncombined.result = cc in
    λ yes. uncombined_is_none c.args.table.now.edition c.args.table.now.trip c.args.front.now (same ∙ yes)

pub returns-else-is_uncombined : goal.returns-else-is_uncombined
returns-else-is_uncombined c =
    let same : is_untimely c.args.table.now.edition c.args.table.now.trip c.args.front.now (unit_of c.args.front.now (length c.args.front.now)) ≡ c.is_untimely.result = cc in
    λ yes. untimely_is_none c.args.table.now.edition c.args.table.now.trip c.args.front.now (same ∙ yes)
