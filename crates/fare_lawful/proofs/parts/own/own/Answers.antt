use Rattle.std.proofs.Common.{◌+◌, ◌∙◌, length, sym, arith}
use Rattle.fare_rules.specs.Construction.{own}
use Rattle.fare_lawful.proofs.OwnLemmas.{own_all, they_are_places}
use Rattle.fare_lawful.proofs.parts.own.own.Goals as goal

pub returns-clause-places : goal.returns-clause-places
unfolding own
returns-clause-places c =
    they_are_places c.args.parts.now c.args.unit c.loop-k.own.items
    (sym (own_all c.loop-k.own.items c.args.parts.now c.args.unit c.loop-k.k (length c.args.parts.now + 1) (omega arith)) ∙ c.loop-k.invariant.0)
