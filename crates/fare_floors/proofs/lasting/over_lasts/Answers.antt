use Rattle.std.proofs.Common.{ℕ, ◌<◌, length-set, set, Option, sym, subst, ◌∙◌, inl, inr, arith}
use Rattle.std.proofs.lemmas.Bool.{cases_eq, cases_lt}
use Rattle.std.proofs.lemmas.List.{get_or-set_same}
use Rattle.std.specs.Prelude.{None}
use Rattle.fare_bounds.specs.Covers.{rest_at}
use Rattle.fare_legs.specs.Costs.{IsUpTo}
use Rattle.fare_legs.proofs.ReachLemmas.{up_first, up_second}
use Rattle.fare_floors.proofs.LastPartLemmas.{none_past, row_kept}
use Rattle.fare_floors.proofs.lasting.over_lasts.Goals as goal

pub loop-i-preserved : goal.loop-i-preserved
loop-i-preserved c =
    let row = c.loop-i.row in
    let p = c.loop-i.i in
    let within : c.loop-i.i < 17 = omega arith in
    let P : Option ℕ → Type 0 = λ number. (most : ℕ) → IsUpTo most (rest_at c.loop-i.row c.loop-i.i) → IsUpTo most number in
    let Q : Option ℕ → Type 0 = λ number. (most : ℕ) → IsUpTo most (rest_at c.args.behind.now c.loop-i.i) → IsUpTo most number in
    let kept = subst P (sym c.lesser.ensures) (λ most up. up_first c.number_at-last.result c.number_at-whole.result most (subst (IsUpTo most) (sym c.number_at-last.ensures) up)) in
    let more = subst Q (sym c.lesser.ensures) (λ most up. up_second c.number_at-last.result c.number_at-whole.result most (subst (IsUpTo most) (sym c.number_at-whole.ensures) up)) in
    record {
      long = length-set row p c.lesser.result ∙ c.loop-i.invariant.long;
      lasts = λ i s low le home behind entry there contains cost e may.
          row_kept c.loop-i.row c.loop-i.i c.lesser.result (omega (arith, c.loop-i.invariant.long)) kept i _ (c.loop-i.invariant.lasts i s low le home behind entry there contains cost e may);
      whole = λ i cost less up.
          elim (cases_eq i c.loop-i.i) [
            | inl same ↦
                let S : ℕ → Type 0 = λ j. IsUpTo cost (rest_at c.args.behind.now j) in
                let T : ℕ → Type 0 = λ j. IsUpTo cost (rest_at (set c.loop-i.row c.loop-i.i c.lesser.result) j) in
                let U : Option ℕ → Type 0 = λ number. IsUpTo cost number in
                subst T (sym same) (subst U (sym (get_or-set_same c.loop-i.row c.loop-i.i c.lesser.result None (omega (arith, c.loop-i.invariant.long)))) (more cost (subst S same up)))
            | inr other ↦ row_kept c.loop-i.row c.loop-i.i c.lesser.result (omega (arith, c.loop-i.invariant.long)) kept i cost (c.loop-i.invariant.whole i cost (omega arith) up)
          ];
    }

pub returns : goal.returns
returns c = record {
  lasts = c.loop-i.invariant.lasts;
  whole = λ f i cost up.
      elim (cases_lt i 17) [
        | inl less ↦ c.loop-i.invariant.whole i cost (omega arith) up
        | inr past ↦ absurd (none_past c.args.behind.now i cost (omega (arith, c.told-behind, past)) up)
      ];
}
