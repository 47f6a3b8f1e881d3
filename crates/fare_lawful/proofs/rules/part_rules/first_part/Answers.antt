use Rattle.std.proofs.Common.{rules, tests}
use Rattle.fare_lawful.specs.Tests.{part_breaks}
use Rattle.fare_lawful.proofs.rules.part_rules.first_part.Goals as goal

pub returns : goal.returns
returns c = c.first_that.ensures (part_breaks c.args.edition.now c.args.trip.now c.args.parts.now c.args.rule) (λ k r low high met. search (rules, tests))
