use Rattle.std.proofs.Common.{◌+◌, ◌≤◌, ◌++◌, ◌∷◌, [], ◌∙◌, length, ap, arith}
use Rattle.std.specs.Prelude.{Some}
use Rattle.fare_rules.specs.Construction.{greatest_unit, places}
use Rattle.fare_calc.specs.declared.numbered_unit.NumberedUnit.{NumberedUnit}
use Rattle.fare_calc.specs.UnitSheets.{FitsUnit, numbered_unit}
use Rattle.fare_calc.proofs.RangeLists.{all_hold, length_more, map_more}
use Rattle.fare_calc.proofs.sheets.unit_sheets.Goals as goal

pub loop-unit-preserved : goal.loop-unit-preserved
loop-unit-preserved c =
    let before = c.loop-unit.units.items in
    let one = Some c.numbered_unit.result in
    let longer : length c.push.new.self.items ≤ length c.loop-unit.units.items + 1 = length_more before c.push.new.self.items one c.push.ensures.items in
    record {
      few = omega (arith, c.loop-unit.invariant.few);
      fit = all_hold FitsUnit before c.push.new.self.items one c.push.ensures.items c.loop-unit.invariant.fit c.numbered_unit.ensures.fits;
      kept = map_more (numbered_unit c.args.edition.now c.args.trip.now c.args.c.now) (c.loop-unit.unit + 1) (greatest_unit c.args.c.now (places c.args.c.now) + 1) before c.push.new.self.items _
          (omega (arith, c.loop-unit-test.true, c.unit_count-unit-end.ensures.value))
          (c.push.ensures.items ∙ ap (λ (x : NumberedUnit). before ++ x ∷ []) c.numbered_unit.ensures.value) c.loop-unit.invariant.kept;
    }
