use Rattle.std.proofs.Common.{sym, ◌∙◌}
use Rattle.fare_best.proofs.WalkedLemmas.{first_within}
use Rattle.fare_best.proofs.first.are_near.Goals as goal

pub returns-then-is_within-clause-first : goal.returns-then-is_within-clause-first
returns-then-is_within-clause-first c is =
    first_within c.args.table.now.edition c.args.table.now.trip c.args.wanted.count c.min.result c.walk_all.new.found c.requires.some
    c.walk_all.ensures (sym c.is_within.ensures ∙ c.if-is_within.true)

pub returns-clause-first : goal.returns-clause-first
returns-clause-first c is =
    first_within c.args.table.now.edition c.args.table.now.trip c.args.wanted.count c.args.wanted.limit c.walk_all-2.new.found c.requires.some
    c.walk_all-2.ensures (sym c.is_within-2.ensures ∙ is)
