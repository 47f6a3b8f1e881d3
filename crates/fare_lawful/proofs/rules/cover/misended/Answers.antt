use Rattle.std.proofs.Common.{rules, tests}
use Rattle.fare_rules.specs.Construction.{is_misended}
use Rattle.fare_lawful.proofs.rules.cover.misended.Goals as goal

pub returns : goal.returns
returns c = c.first_that.ensures (is_misended c.args.trip.now c.args.parts.now) (λ k r low high met. search (rules, tests))
