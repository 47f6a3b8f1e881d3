use Rattle.std.proofs.Common.{ℕ, length-set, Option, subst, ◌∙◌, arith}
use Rattle.fare_bounds.specs.Covers.{rest_at}
use Rattle.fare_floors.specs.Stack.{IsOverOpen}
use Rattle.fare_floors.proofs.StackRowLemmas.{row_put}
use Rattle.fare_floors.proofs.stacking.over_open.Goals as goal

pub loop-i-preserved : goal.loop-i-preserved
loop-i-preserved c =
    let P : ℕ → Option ℕ → Type 0 = λ i number. IsOverOpen c.args.trip.now c.args.homing.now c.args.from c.args.opened.closes c.args.opened.stands c.args.opened.start c.args.opened.must i c.args.homes.now (rest_at c.args.behind.now i) number in
    let Q : Option ℕ → Type 0 = λ below. IsOverOpen c.args.trip.now c.args.homing.now c.args.from c.args.opened.closes c.args.opened.stands c.args.opened.start c.args.opened.must c.loop-i.i c.args.homes.now below c.over_point.result in
    record {
      long = length-set c.loop-i.row c.loop-i.i c.over_point.result ∙ c.loop-i.invariant.long;
      known = row_put P c.loop-i.row c.args.from c.loop-i.i c.over_point.result (omega (arith, c.loop-i.invariant.long)) c.loop-i.invariant.known (subst Q c.number_at-below.ensures c.over_point.ensures);
    }

pub returns : goal.returns
returns c i low most = c.loop-i.invariant.known i low (omega (arith, c.count-i-end.ensures.value))
