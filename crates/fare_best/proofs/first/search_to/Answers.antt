use Rattle.std.proofs.Common.{sym, ◌∙◌}
use Rattle.fare_best.proofs.WalkedLemmas.{first_within}
use Rattle.fare_best.proofs.first.search_to.Goals as goal

pub returns-then-is_within : goal.returns-then-is_within
returns-then-is_within c =
    first_within c.args.table.now.edition c.args.table.now.trip c.args.wanted.count c.args.wanted.limit c.walk_under.new.found c.requires.some
    c.walk_under.ensures (sym c.is_within.ensures ∙ c.if-is_within.true)
