use Rattle.std.proofs.Common.{◌≡◌, ℕ, true, None, replicate, subst}
use Rattle.fare_rules.specs.Construction.{first_of, own, start_of}
use Rattle.fare_units.specs.Onward.{is_shut_unit}
use Rattle.fare_floors.specs.Ahead.{IsHalfRow}
use Rattle.fare_floors.specs.Joining.{is_stuck}
use Rattle.fare_floors.proofs.AheadLemmas.{begun_row, shut_row, stuck_row}
use Rattle.fare_floors.proofs.ahead.begun_row.Goals as goal

pub returns-then-is_stuck : goal.returns-then-is_stuck
returns-then-is_stuck c =
    let stuck : is_stuck c.args.table.now.trip c.args.front.now c.args.unit ≡ true = cc in
    stuck_row c.args.table.now c.args.homing.now c.requires.homing c.args.front.now c.args.unit c.requires.low c.requires.high (replicate 17 None) stuck

pub returns-then-is_shut_unit : goal.returns-then-is_shut_unit
returns-then-is_shut_unit c =
    let shut : is_shut_unit c.args.table.now.edition c.args.table.now.trip c.args.front.now c.args.unit ≡ true = cc in
    shut_row c.args.table.now c.args.homing.now c.requires.homing c.args.front.now c.args.unit c.requires.low c.requires.high (replicate 17 None) shut

pub returns : goal.returns
returns c =
    let start : c.start_of-start.result ≡ start_of c.args.table.now.trip c.args.front.now (first_of (own c.args.front.now c.args.unit)) = cc in
    let P : ℕ → Type 0 = λ from. IsHalfRow c.args.table.now c.args.homing.now from c.start_of-start.result true c.args.below.now c.half_row.result in
    begun_row c.args.table.now c.args.homing.now c.requires.homing c.args.front.now c.args.unit c.requires.low c.requires.high c.args.below.now c.half_row.result c.requires.below c.start_of-start.result start
    (subst P c.end.ensures.value c.half_row.ensures)
