use Rattle.std.proofs.Common.{ℕ, length-set, Option, subst, sym, ◌∙◌, inl, inr, arith}
use Rattle.std.proofs.lemmas.Bool.{cases_lt}
use Rattle.fare_bounds.specs.Covers.{rest_at}
use Rattle.fare_legs.specs.Costs.{IsUpTo}
use Rattle.fare_legs.proofs.ReachLemmas.{greater_up, row_more}
use Rattle.fare_floors.proofs.LastPartLemmas.{none_past}
use Rattle.fare_floors.proofs.lasting.greater_of.Goals as goal

pub loop-i-preserved : goal.loop-i-preserved
loop-i-preserved c =
    let P : ℕ → Option ℕ → Type 0 = λ i number. (most : ℕ) → IsUpTo most (rest_at c.args.a.now i) → IsUpTo most (rest_at c.args.b.now i) → IsUpTo most number in
    record {
      long = length-set c.loop-i.row c.loop-i.i c.greater.result ∙ c.loop-i.invariant.long;
      known = λ i most less a b. row_more P c.loop-i.row c.loop-i.i c.greater.result (omega (arith, c.loop-i.invariant.long)) (λ j past. λ cost x y. c.loop-i.invariant.known j cost past x y) (λ most x y. greater_up c.number_at-one.result c.number_at-other.result c.greater.result most c.greater.ensures (subst (IsUpTo most) (sym c.number_at-one.ensures) x) (subst (IsUpTo most) (sym c.number_at-other.ensures) y)) i less most a b;
    }

pub returns : goal.returns
returns c i most a b =
    elim (cases_lt i 17) [
      | inl less ↦ c.loop-i.invariant.known i most (omega arith) a b
      | inr past ↦ absurd (none_past c.args.a.now i most (omega (arith, c.told-a, past)) a)
    ]
