use Rattle.std.proofs.Common.{rules, tests}
use Rattle.fare_lawful.specs.Breaks.{is_unpriced}
use Rattle.fare_lawful.proofs.rules.amounts.unpriced.Goals as goal

pub returns : goal.returns
returns c = c.first_that.ensures (is_unpriced c.args.table.now.edition c.args.table.now.trip c.args.parts.now) (λ k r low high met. search (rules, tests))
