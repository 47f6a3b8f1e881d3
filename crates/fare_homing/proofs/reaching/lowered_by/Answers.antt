use Rattle.std.proofs.Common.{◌≡◌, true, false, not, refl, ℕ, ◌+◌, ◌<◌, subst, sym, ap, ◌∙◌, inl, inr, arith}
use Rattle.std.specs.Prelude.{Option, Some, None, is_some}
use Rattle.std.proofs.lemmas.Bool.{cases_eq}
use Rattle.fare_bounds.specs.Covers.{rest_at}
use Rattle.fare_legs.specs.Costs.{IsUpTo}
use Rattle.fare_homing.specs.Rows.{cell}
use Rattle.fare_legs.proofs.FloorLemmas.{not_there, stands_before}
use Rattle.fare_homing.proofs.reaching.lowered_by.Goals as goal

none : (found : Option ℕ) → not (is_some found) ≡ true → is_some found ≡ false
none None e = refl
none (Some n) e = absurd (true_false (sym e))
  where
    true_false : true ≡ false → ⊥
    true_false h = cc

pub loop-b-init : goal.loop-b-init
loop-b-init c = record {
  kept = λ j most up. up;
  under = λ b j x y low less. absurd (omega arith);
}

pub loop-b-preserved : goal.loop-b-preserved
loop-b-preserved c = record {
  kept = λ j most up. c.lowered-least.ensures.kept j most (c.loop-b.invariant.kept j most up);
  under = λ b j x y low less up more. elim (cases_eq b c.loop-b.b) [
    | inl same ↦
        let P : ℕ → Type 0 = λ k. IsUpTo x (rest_at c.args.steps.now k) in
        let Q : ℕ → Type 0 = λ k. IsUpTo y (cell c.args.behind.now k j) in
        c.lowered-least.ensures.under j x y (subst (IsUpTo x) (sym c.number_at-step.ensures) (subst P same up)) (subst Q same more)
    | inr other ↦ c.lowered-least.ensures.kept j (x + y) (c.loop-b.invariant.under b j x y low (omega arith) up more)
  ];
}

pub loop-b-preserved-then-is_nothing : goal.loop-b-preserved-then-is_nothing
loop-b-preserved-then-is_nothing c = record {
  kept = c.loop-b.invariant.kept;
  under = λ b j x y low less up more. elim (cases_eq b c.loop-b.b) [
    | inl same ↦
        let P : ℕ → Type 0 = λ k. IsUpTo x (rest_at c.args.steps.now k) in
        let some : is_some (rest_at c.args.steps.now c.loop-b.b) ≡ false = ap is_some (sym c.number_at-step.ensures) ∙ none c.number_at-step.result (sym c.is_nothing.ensures ∙ c.if-is_nothing.true) in
        absurd (not_there (rest_at c.args.steps.now c.loop-b.b) x some (subst P same up))
    | inr other ↦ c.loop-b.invariant.under b j x y low (omega arith) up more
  ];
}

pub returns-clause-kept : goal.returns-clause-kept
returns-clause-kept c = c.loop-b.invariant.kept

pub returns-clause-under : goal.returns-clause-under
returns-clause-under c b j x y low less up more =
    let before : b < 17 = omega (arith, c.told-steps, stands_before c.args.steps.now b x up) in
    c.loop-b.invariant.under b j x y low (omega arith) up more
