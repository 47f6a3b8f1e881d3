use Rattle.std.proofs.Common.{List, sym, subst, arith}
use Rattle.fare_homing.specs.declared.onward.Onward.{Onward}
use Rattle.fare_homing.specs.Barring.{AreUnlinked}
use Rattle.fare_homing.specs.Rows.{cell, begun_from, jaw_from}
use Rattle.fare_homing.proofs.LinkLemmas.{none_unlinked, put_unlinked}
use Rattle.fare_homing.proofs.barring.unlinked.Goals.{then-set-count, else-set-count}
use Rattle.fare_homing.proofs.barring.unlinked.Goals as goal

pub loop-set-init : goal.loop-set-init
loop-set-init c =
    let homing = c.args.homing.now in
    let known = c.requires.known in
    none_unlinked c.args.table.now.edition c.args.table.now.trip (begun_from homing) (jaw_from homing) (cell homing.whole) homing.rest (record { wholes = known.wholes; onward = known.onward; nothing = known.nothing })

pub loop-set-preserved : goal.loop-set-preserved
loop-set-preserved c =
    let homing = c.args.homing.now in
    let Unlinked : List Onward → Type 0 = λ onwards. AreUnlinked c.args.table.now.edition c.args.table.now.trip (begun_from homing) (jaw_from homing) onwards in
    elim c.if-set-count.branch [
      | then-set-count w ↦ subst Unlinked (sym w.onwards-is) (put_unlinked c.args.table.now.edition c.args.table.now.trip (begun_from homing) (jaw_from homing) c.loop-set.onwards c.loop-set.set w.onward_without.result (omega arith) w.onward_without.ensures.rests w.onward_without.ensures.next c.loop-set.invariant)
      | else-set-count w ↦ subst Unlinked (sym w.onwards-is) c.loop-set.invariant
    ]
