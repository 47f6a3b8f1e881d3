use Rattle.std.proofs.Common.{rules, tests}
use Rattle.fare_rules.specs.UnitRules.{clashes, clashed}
use Rattle.fare_lawful.proofs.rules.combine.clashed.Goals as goal

pub returns : goal.returns
unfolding clashed
returns c = c.first_that.ensures (clashes c.args.edition.now c.args.parts.now) (λ k r low high met. search (rules, tests))
