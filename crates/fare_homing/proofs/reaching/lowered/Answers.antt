use Rattle.std.proofs.Common.{ℕ, ◌+◌, ◌<◌, length-set, Option, refl, subst, sym, ◌∙◌, arith}
use Rattle.fare_bounds.specs.Covers.{rest_at}
use Rattle.fare_legs.specs.Costs.{IsUpTo}
use Rattle.fare_legs.proofs.FloorLemmas.{lesser_kept, lesser_sum, stands_before}
use Rattle.fare_legs.proofs.ReachLemmas.{row_more}
use Rattle.fare_homing.proofs.reaching.lowered.Goals as goal

pub loop-j-preserved : goal.loop-j-preserved
loop-j-preserved c =
    let row = c.args.row.now in
    let behind = c.args.behind.now in
    let Kept : ℕ → Option ℕ → Type 0 = λ j number. (most : ℕ) → IsUpTo most (rest_at row j) → IsUpTo most number in
    let Under : ℕ → Option ℕ → Type 0 = λ j number. (x y : ℕ) → IsUpTo x c.args.step → IsUpTo y (rest_at behind j) → IsUpTo (x + y) number in
    record {
      long = length-set c.loop-j.lowered c.loop-j.j c.lesser.result ∙ c.loop-j.invariant.long;
      kept = λ j most less. row_more Kept c.loop-j.lowered c.loop-j.j c.lesser.result (omega (arith, c.loop-j.invariant.long)) (λ k past most up. c.loop-j.invariant.kept k most past up)
          (λ most up. lesser_kept c.number_at-here.result c.added.result c.lesser.result c.lesser.ensures most (subst (IsUpTo most) (sym c.number_at-here.ensures) up)) j less most;
      under = λ j x y less. row_more Under c.loop-j.lowered c.loop-j.j c.lesser.result (omega (arith, c.loop-j.invariant.long)) (λ k past x y a b. c.loop-j.invariant.under k x y past a b)
          (λ x y a b. lesser_sum (rest_at row c.loop-j.j) c.args.step (rest_at behind c.loop-j.j) c.lesser.result (rw (c.lesser.ensures, c.added.ensures, c.number_at-here.ensures, c.number_at-more.ensures) refl) x y a b) j less x y;
    }

pub returns-clause-kept : goal.returns-clause-kept
returns-clause-kept c j most up =
    let short : j < 17 = omega (arith, c.told-row, stands_before c.args.row.now j most up) in
    c.loop-j.invariant.kept j most (omega arith) up

pub returns-clause-under : goal.returns-clause-under
returns-clause-under c j x y up more =
    let short : j < 17 = omega (arith, c.told-behind, stands_before c.args.behind.now j y more) in
    c.loop-j.invariant.under j x y (omega arith) up more
