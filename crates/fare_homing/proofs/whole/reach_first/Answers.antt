use Rattle.std.proofs.Common.{ℕ, ◌+◌, refl, subst, inl, inr, arith}
use Rattle.std.specs.Prelude.{Option, if◌then◌else◌}
use Rattle.std.proofs.lemmas.Bool.{cases_eq}
use Rattle.fare_bounds.specs.Covers.{rest_at}
use Rattle.fare_legs.specs.Costs.{IsUpTo}
use Rattle.fare_homing.specs.Rows.{begun_from, jaw_from}
use Rattle.fare_legs.proofs.FloorLemmas.{lesser_kept, lesser_sum}
use Rattle.fare_homing.proofs.whole.reach_first.Goals as goal

pub loop-b-preserved : goal.loop-b-preserved
loop-b-preserved c b x y low less up more =
    let Behind : ℕ → Option ℕ = λ k. if c.args.closes then begun_from c.args.homing.now k k c.args.home else jaw_from c.args.homing.now k k c.args.home in
    elim (cases_eq b c.loop-b.b) [
      | inl same ↦
          let P : ℕ → Type 0 = λ k. IsUpTo x (rest_at c.args.first.now k) in
          let Q : ℕ → Type 0 = λ k. IsUpTo y (Behind k) in
          lesser_sum c.loop-b.least (rest_at c.args.first.now c.loop-b.b) (Behind c.loop-b.b) c.lesser-least.result (rw (c.lesser-least.ensures, c.added.ensures, c.number_at-step.ensures, c.behind_first-behind.ensures) refl) x y (subst P same up) (subst Q same more)
      | inr other ↦ lesser_kept c.loop-b.least c.added.result c.lesser-least.result c.lesser-least.ensures (x + y) (c.loop-b.invariant b x y low (omega arith) up more)
    ]

pub returns : goal.returns
returns c b x y low less up more = c.loop-b.invariant b x y low (omega arith) up more
