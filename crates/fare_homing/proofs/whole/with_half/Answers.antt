use Rattle.std.proofs.Common.{◌≡◌, ℕ, Option, sym, subst, ◌∙◌, arith}
use Rattle.std.proofs.lemmas.Option.{same_Some}
use Rattle.fare_legs.specs.Costs.{IsUpTo}
use Rattle.fare_legs.proofs.LeastLemmas.{capped_up}
use Rattle.fare_legs.proofs.ReachLemmas.{up_second}
use Rattle.fare_homing.proofs.whole.with_half.Goals as goal

pub returns-clause-half : goal.returns-clause-half
returns-clause-half c most cost up low pair =
    let same : c.in-Some.floor ≡ up.0 = same_Some c.in-Some.floor up.0 (sym c.in-Some.is ∙ c.amount.ensures ∙ up.1) in
    let P : Option ℕ → Type 0 = λ number. IsUpTo cost number in
    subst P (sym c.lesser-2.ensures) (up_second c.args.alone c.of.result cost (capped_up c.least_pair.result c.of.result cost c.of.ensures (c.least_pair.ensures cost pair (omega (arith, up.2)))))
