use Rattle.std.proofs.Common.{rules, tests}
use Rattle.fare_rules.specs.Lawful.{is_mispaired}
use Rattle.fare_lawful.proofs.rules.part_rules.mispaired.Goals as goal

pub returns : goal.returns
returns c = c.first_that.ensures (is_mispaired c.args.edition.now c.args.trip.now c.args.parts.now) (λ k r low high met. search (rules, tests))
