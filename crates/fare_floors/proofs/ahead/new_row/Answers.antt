use Rattle.std.proofs.Common.{◌≡◌, ℕ, ◌+◌, false, refl, subst}
use Rattle.fare_rules.specs.Construction.{greatest_unit, places}
use Rattle.fare_units.specs.Walk.{next_start}
use Rattle.fare_floors.specs.Ahead.{IsHalfRow}
use Rattle.fare_floors.proofs.AheadLemmas.{new_row}
use Rattle.fare_floors.proofs.ahead.new_row.Goals as goal

pub returns : goal.returns
returns c =
    let start : c.next_start-start.result ≡ next_start c.args.table.now.trip c.args.front.now = cc in
    let P : ℕ → Type 0 = λ from. IsHalfRow c.args.table.now c.args.homing.now from c.next_start-start.result false c.args.below.now c.half_row.result in
    new_row c.args.table.now c.args.homing.now c.requires.homing c.args.front.now (greatest_unit c.args.front.now (places c.args.front.now) + 1) refl c.args.below.now c.half_row.result c.requires.below c.next_start-start.result start
    (subst P c.end.ensures.value c.half_row.ensures)
