use Rattle.std.proofs.Common.{◌≡◌, ℕ, ◌+◌, find, subst, rules, tests}
use Rattle.fare_rules.specs.Numbers.{numbers}
use Rattle.fare_lawful.specs.Tests.{unit_breaks}
use Rattle.fare_lawful.proofs.rules.unit_rules.first_unit.Goals as goal

pub returns : goal.returns
returns c =
    let breaks : ℕ → _ = unit_breaks c.args.edition.now c.args.trip.now c.args.parts.now c.args.rule in
    let P : ℕ → Type 0 = λ last. c.first_that.result ≡ find breaks (numbers 1 (last + 1)) in
    subst P c.greatest_unit.ensures.value (c.first_that.ensures breaks (λ k r low high met. search (rules, tests)))
