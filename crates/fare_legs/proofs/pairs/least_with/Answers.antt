use Rattle.std.proofs.Common.{ℕ, sym, subst, ◌∙◌}
use Rattle.std.proofs.lemmas.Option.{same_Some}
use Rattle.fare_legs.specs.Pairs.{IsUnderPairsFrom}
use Rattle.fare_legs.proofs.pairs.least_with.Goals as goal

pub returns-clause-pairs : goal.returns-clause-pairs
returns-clause-pairs c amount e =
    let P : ℕ → Type 0 = λ x. IsUnderPairsFrom c.args.pairing.now.table.now c.args.pairing.now.barred.now c.args.pairing.now.start c.args.pairing.now.home c.args.pairing.now.floor c.args.entry.now.fare x c.args.end c.least_behind.result in
    subst P (same_Some c.in-Some.amount amount (sym c.in-Some.is ∙ c.half_cost.ensures ∙ e)) c.least_behind.ensures.pairs
