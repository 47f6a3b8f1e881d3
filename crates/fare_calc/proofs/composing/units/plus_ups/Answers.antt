use Rattle.std.proofs.Common.{◌+◌, ◌≤◌, ◌++◌, ◌∙◌, length, ap, arith}
use Rattle.std.specs.Prelude.{Option}
use Rattle.std.specs.Option.{option_to_list}
use Rattle.fare_line.specs.declared.line.plus_up.PlusUp.{PlusUp}
use Rattle.fare_line.specs.Line.{is_plus}
use Rattle.fare_calc.specs.LineOf.{plus_up_of}
use Rattle.fare_calc.proofs.RangeLists.{all_more, found_more, length_more}
use Rattle.fare_calc.proofs.composing.units.plus_ups.Goals as goal

pub loop-unit-preserved : goal.loop-unit-preserved
loop-unit-preserved c =
    let before = c.loop-unit.plus.items in
    let longer : length c.keep.new.kept.items ≤ length c.loop-unit.plus.items + 1 = length_more before c.keep.new.kept.items c.plus_up_of.result c.keep.ensures in
    record {
      few = omega (arith, c.loop-unit.invariant.few);
      form = all_more is_plus before c.keep.new.kept.items c.plus_up_of.result c.keep.ensures c.loop-unit.invariant.form c.plus_up_of.ensures.form;
      kept = found_more plus_up_of c.units-unit-items.result.now c.loop-unit.unit-index _ before c.keep.new.kept.items c.loop-unit-test.true
          (c.keep.ensures ∙ ap (λ (o : Option PlusUp). before ++ option_to_list o) c.plus_up_of.ensures.value) c.loop-unit.invariant.kept;
    }
