use Rattle.std.proofs.Common.{rules, tests}
use Rattle.fare_rules.specs.Shape.{is_crossed, crossed}
use Rattle.fare_lawful.proofs.rules.crossing.crossed.Goals as goal

pub returns : goal.returns
unfolding crossed
returns c = c.first_that.ensures (is_crossed c.args.parts.now) (λ k r low high met. search (rules, tests))
