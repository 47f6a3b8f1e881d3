use Rattle.std.proofs.Common.{rules, tests}
use Rattle.fare_rules.specs.Construction.{is_misnumbered, misnumbered}
use Rattle.fare_lawful.proofs.rules.cover.misnumbered.Goals as goal

pub returns : goal.returns
unfolding misnumbered
returns c = c.first_that.ensures (is_misnumbered c.args.parts.now) (λ k r low high met. search (rules, tests))
