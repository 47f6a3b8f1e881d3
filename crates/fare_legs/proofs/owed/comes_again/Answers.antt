use Rattle.std.proofs.Common.{◌≡◌, ℕ, true, false, inl, inr, subst, sym, ◌∙◌, arith}
use Rattle.std.proofs.lemmas.Bool.{cases_eq}
use Rattle.fare_legs.specs.Costs.{is_same_city}
use Rattle.fare_legs.proofs.owed.comes_again.Goals as goal

pub loop-home-init : goal.loop-home-init
loop-home-init c home low high = absurd (omega arith)

pub loop-home-preserved : goal.loop-home-preserved
loop-home-preserved c home low high =
    elim (cases_eq home c.loop-home.home) [
      | inl same ↦
          let P : ℕ → Type 0 = λ k. is_same_city c.args.trip.now c.args.a k ≡ false in
          let here : c.is.result ≡ is_same_city c.args.trip.now c.args.a c.loop-home.home = cc in
          subst P (sym same) (sym here ∙ c.if-is.false)
      | inr other ↦ c.loop-home.invariant home low (omega arith)
    ]

pub returns : goal.returns
returns c none home low high = c.loop-home.invariant home low (omega arith)

pub returns-then-is : goal.returns-then-is
returns-then-is c none = absurd (never none)
  where
    never : true ≡ false → ⊥
    never e = cc
