use Rattle.std.proofs.Common.{ℕ, ◌+◌, refl, subst, inl, inr, arith}
use Rattle.std.proofs.lemmas.Bool.{cases_eq}
use Rattle.fare_bounds.specs.Covers.{rest_at}
use Rattle.fare_legs.specs.Costs.{IsUpTo}
use Rattle.fare_legs.proofs.FloorLemmas.{lesser_kept, lesser_sum}
use Rattle.fare_homing.proofs.reaching.least_onward.Goals as goal

pub loop-b-preserved : goal.loop-b-preserved
loop-b-preserved c b x y low less up more =
    elim (cases_eq b c.loop-b.b) [
      | inl same ↦
          let P : ℕ → Type 0 = λ k. IsUpTo x (rest_at c.args.steps.now k) in
          let Q : ℕ → Type 0 = λ k. IsUpTo y (rest_at c.args.rests.now k) in
          lesser_sum c.loop-b.least (rest_at c.args.steps.now c.loop-b.b) (rest_at c.args.rests.now c.loop-b.b) c.lesser-least.result (rw (c.lesser-least.ensures, c.added.ensures, c.number_at-step.ensures, c.number_at-rest.ensures) refl) x y (subst P same up) (subst Q same more)
      | inr other ↦ lesser_kept c.loop-b.least c.added.result c.lesser-least.result c.lesser-least.ensures (x + y) (c.loop-b.invariant b x y low (omega arith) up more)
    ]

pub returns : goal.returns
returns c b x y low less up more = c.loop-b.invariant b x y low (omega arith) up more
