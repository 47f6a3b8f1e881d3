use Rattle.std.proofs.Common.{rules, ◌≡◌, ℕ, ◌+◌, List, sym, subst, ◌∙◌, ap, arith}
use Rattle.std.specs.Prelude.{Option}
use Rattle.fare_bounds.specs.Covers.{lesser, rest_at}
use Rattle.fare_legs.specs.Costs.{is_same_city}
use Rattle.fare_legs.proofs.OwedLemmas.{IsLowered, lowered_here, lowered_over}
use Rattle.fare_legs.proofs.owed.lowered_in.Goals.{then-is, else-is}
use Rattle.fare_legs.proofs.owed.lowered_in.Goals as goal

pub loop-home-init : goal.loop-home-init
loop-home-init c = record { long = search rules; kept = λ home most up. up; here = λ home most low high. absurd (omega arith) }

pub loop-home-preserved : goal.loop-home-preserved
loop-home-preserved c =
    let trip = c.args.trip.now in
    let place = c.loop-home.home in
    let rows = c.loop-home.lowered in
    let Lowered : List (Option ℕ) → Type 0 = λ new. IsLowered trip c.args.row.now c.args.a c.args.stand (place + 1) c.args.number new in
    let here : c.is.result ≡ is_same_city trip c.args.a place = cc in
    elim c.if-is.branch [
      | then-is w ↦ subst Lowered (sym w.lowered-is) (lowered_here trip c.args.row.now c.args.a c.args.stand place c.args.number rows c.loop-home.invariant w.lesser.result (omega arith) (w.lesser.ensures ∙ ap (λ n. lesser n c.args.number) w.number_at.ensures))
      | else-is w ↦ subst Lowered (sym w.lowered-is) (lowered_over trip c.args.row.now c.args.a c.args.stand place c.args.number rows c.loop-home.invariant (sym here ∙ w.if-is.false))
    ]

pub returns-clause-kept : goal.returns-clause-kept
returns-clause-kept c = c.loop-home.invariant.kept

pub returns-clause-here : goal.returns-clause-here
returns-clause-here c home most low high city up = c.loop-home.invariant.here home most low (omega arith) city up
