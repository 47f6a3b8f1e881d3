use Rattle.std.proofs.Common.{rules, tests}
use Rattle.fare_rules.specs.Construction.{is_unfiled, unfiled}
use Rattle.fare_lawful.proofs.rules.cover.unfiled.Goals as goal

pub returns : goal.returns
unfolding unfiled
returns c = c.first_that.ensures (is_unfiled c.args.edition.now c.args.parts.now) (λ k r low high met. search (rules, tests))
