use Rattle.std.proofs.Common.{sym, ◌∙◌}
use Rattle.fare_best.proofs.WalkedLemmas.{first_within}
use Rattle.fare_best.proofs.first.walk_up.Goals as goal

pub returns-then-is_within : goal.returns-then-is_within
returns-then-is_within c =
    first_within c.args.table.now.edition c.args.table.now.trip c.args.k c.saturating_add-limit.result c.walk_all.new.found c.requires.some
    c.walk_all.ensures (sym c.is_within.ensures ∙ c.if-is_within.true)
