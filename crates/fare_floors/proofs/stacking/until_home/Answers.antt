use Rattle.std.proofs.Common.{ℕ, Option, subst}
use Rattle.fare_homing.specs.Homing.{closing_by, homing_at}
use Rattle.fare_homing.specs.Rows.{begun_from, closing_from, jaw_from}
use Rattle.fare_legs.proofs.ReachLemmas.{added_up}
use Rattle.fare_floors.specs.Stack.{IsUnderSum}
use Rattle.fare_floors.proofs.StackRowLemmas.{until_next}
use Rattle.fare_floors.proofs.stacking.until_home.Goals as goal

pub loop-home-preserved : goal.loop-home-preserved
loop-home-preserved c =
    let P : Option ℕ → Type 0 = λ a. IsUnderSum a c.number_at.result c.added-here.result in
    let Q : Option ℕ → Type 0 = λ b. IsUnderSum (homing_at c.args.trip.now (closing_by c.args.opened.closes (begun_from c.args.homing.now) (closing_from c.args.homing.now) c.args.opened.stands) (jaw_from c.args.homing.now c.args.opened.stands) c.args.opened.start c.args.i c.loop-home.home) b c.added-here.result in
    rw c.lesser-least.ensures
    (until_next c.args.trip.now c.args.homing.now c.args.from c.args.opened.closes c.args.opened.stands c.args.opened.start c.args.i c.args.homes.now c.loop-home.home c.loop-home.least c.added-here.result c.loop-home.invariant (subst Q c.number_at.ensures (subst P c.homing_at-until.ensures (added_up c.homing_at-until.result c.number_at.result c.added-here.result c.added-here.ensures))))
