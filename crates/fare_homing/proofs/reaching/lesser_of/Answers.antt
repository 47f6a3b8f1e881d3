use Rattle.std.proofs.Common.{ℕ, ◌<◌, length-set, Option, subst, sym, ◌∙◌, arith}
use Rattle.fare_bounds.specs.Covers.{rest_at}
use Rattle.fare_legs.specs.Costs.{IsUpTo}
use Rattle.fare_legs.proofs.FloorLemmas.{lesser_kept, stands_before}
use Rattle.fare_legs.proofs.ReachLemmas.{row_more, up_second}
use Rattle.fare_homing.proofs.reaching.lesser_of.Goals as goal

pub loop-j-preserved : goal.loop-j-preserved
loop-j-preserved c =
    let row = c.args.row.now in
    let other = c.args.other.now in
    let Kept : ℕ → Option ℕ → Type 0 = λ j number. (most : ℕ) → IsUpTo most (rest_at row j) → IsUpTo most number in
    let Under : ℕ → Option ℕ → Type 0 = λ j number. (most : ℕ) → IsUpTo most (rest_at other j) → IsUpTo most number in
    record {
      long = length-set c.loop-j.least c.loop-j.j c.lesser.result ∙ c.loop-j.invariant.long;
      kept = λ j most less. row_more Kept c.loop-j.least c.loop-j.j c.lesser.result (omega (arith, c.loop-j.invariant.long)) (λ k past most up. c.loop-j.invariant.kept k most past up)
          (λ most up. lesser_kept c.number_at-one.result c.number_at-another.result c.lesser.result c.lesser.ensures most (subst (IsUpTo most) (sym c.number_at-one.ensures) up)) j less most;
      under = λ j most less. row_more Under c.loop-j.least c.loop-j.j c.lesser.result (omega (arith, c.loop-j.invariant.long)) (λ k past most up. c.loop-j.invariant.under k most past up)
          (λ most up. subst (IsUpTo most) (sym c.lesser.ensures) (up_second c.number_at-one.result c.number_at-another.result most (subst (IsUpTo most) (sym c.number_at-another.ensures) up))) j less most;
    }

pub returns-clause-kept : goal.returns-clause-kept
returns-clause-kept c j most up =
    let short : j < 17 = omega (arith, c.told-row, stands_before c.args.row.now j most up) in
    c.loop-j.invariant.kept j most (omega arith) up

pub returns-clause-under : goal.returns-clause-under
returns-clause-under c j most up =
    let short : j < 17 = omega (arith, c.told-other, stands_before c.args.other.now j most up) in
    c.loop-j.invariant.under j most (omega arith) up
