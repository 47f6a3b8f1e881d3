use Rattle.std.proofs.Common.{◌≡◌, true, List, None, replicate, subst}
use Rattle.fare_rules.specs.declared.part.Part.{Part}
use Rattle.fare_units.specs.Onward.{is_shut_unit}
use Rattle.fare_floors.specs.Joining.{is_stuck}
use Rattle.fare_floors.specs.Stack.{IsOpenUnit}
use Rattle.fare_floors.proofs.StackFloorLemmas.{over_shut_unit, over_stuck_unit, over_no_unit}
use Rattle.fare_floors.proofs.stacking.over_unit.Goals as goal

pub returns-then-is_shut_unit : goal.returns-then-is_shut_unit
returns-then-is_shut_unit c =
    let shut : is_shut_unit c.args.table.now.edition c.args.table.now.trip c.args.partial.now c.args.unit ≡ true = cc in
    over_shut_unit c.args.table.now c.args.homing.now c.args.partial.now c.args.unit c.requires.low c.requires.high c.args.behind.now c.requires.behind shut

pub returns-then-opened : goal.returns-then-opened
returns-then-opened c =
    let P : List Part → Type 0 = λ xs. IsOpenUnit c.args.table.now xs c.args.unit c.open_unit-opened.result in
    let stuck : is_stuck c.args.table.now.trip c.args.partial.now c.args.unit ≡ true = cc in
    let must : c.open_unit-opened.result.must ≡ true = cc in
    over_no_unit c.args.table.now c.args.homing.now c.args.partial.now c.args.unit c.requires.low c.requires.high c.args.behind.now c.requires.behind
    (replicate 17 None) c.open_unit-opened.result (subst P c.parts-parts.ensures.parts c.open_unit-opened.ensures) stuck must

pub returns : goal.returns
returns c =
    let stuck : is_stuck c.args.table.now.trip c.args.partial.now c.args.unit ≡ true = cc in
    over_stuck_unit c.args.table.now c.args.homing.now c.args.partial.now c.args.unit c.requires.low c.requires.high c.args.behind.now c.requires.behind stuck
