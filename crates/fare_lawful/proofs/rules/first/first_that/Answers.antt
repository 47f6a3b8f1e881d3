use Rattle.std.proofs.Common.{◌≡◌, ◌+◌, true, false, Some, find, refl, sym, ◌∙◌, arith}
use Rattle.fare_rules.specs.Numbers.{numbers}
use Rattle.fare_rules.proofs.NumberLemmas.{find_next}
use Rattle.fare_lawful.proofs.rules.first.first_that.Goals as goal

pub returns-then-meets : goal.returns-then-meets
returns-then-meets g c test agrees =
    let here : test c.loop-k.k ≡ true =
    sym (agrees c.loop-k.k c.meets.result (omega arith) (omega arith) c.meets.ensures) ∙ c.if-meets.true in
    let found : find test (numbers c.loop-k.k (c.args.last + 1)) ≡ Some c.loop-k.k =
    rw (find_next test c.loop-k.k (c.args.last + 1) (omega arith), here) refl in
    sym found ∙ c.loop-k.invariant test agrees

pub loop-k-preserved : goal.loop-k-preserved
loop-k-preserved g c test agrees =
    let here : test c.loop-k.k ≡ false =
    sym (agrees c.loop-k.k c.meets.result (omega arith) (omega arith) c.meets.ensures) ∙ c.if-meets.false in
    let past : find test (numbers c.loop-k.k (c.args.last + 1)) ≡ find test (numbers (c.loop-k.k + 1) (c.args.last + 1)) =
    rw (find_next test c.loop-k.k (c.args.last + 1) (omega arith), here) refl in
    sym past ∙ c.loop-k.invariant test agrees
