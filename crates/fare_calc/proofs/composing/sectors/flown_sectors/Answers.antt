use Rattle.std.proofs.Common.{◌+◌, ◌≤◌, ◌++◌, ◌∙◌, length, ap, arith}
use Rattle.std.specs.Prelude.{Option}
use Rattle.std.specs.Option.{option_to_list}
use Rattle.fare_trip.specs.Itinerary.{count}
use Rattle.fare_line.specs.declared.line.sector.LineSector.{LineSector}
use Rattle.fare_line.specs.Line.{is_flown}
use Rattle.fare_calc.specs.LineOf.{flown_of}
use Rattle.fare_calc.proofs.RangeLists.{all_more, gather_more, length_more}
use Rattle.fare_calc.proofs.composing.sectors.flown_sectors.Goals as goal

pub loop-number-preserved : goal.loop-number-preserved
loop-number-preserved c =
    let f = flown_of c.args.trip.now in
    let kept = c.keep.ensures ∙ ap (λ (o : Option LineSector). c.loop-number.flown.items ++ option_to_list o) c.flown_of.ensures.value in
    let longer : length c.keep.new.kept.items ≤ length c.loop-number.flown.items + 1 = length_more c.loop-number.flown.items c.keep.new.kept.items (f (c.loop-number.number + 1)) kept in
    record {
      few = omega (arith, c.loop-number.invariant.few);
      form = all_more is_flown c.loop-number.flown.items c.keep.new.kept.items c.flown_of.result c.keep.ensures c.loop-number.invariant.form c.flown_of.ensures.form;
      kept = gather_more f (c.loop-number.number + 1) (count c.args.trip.now + 1) c.loop-number.flown.items c.keep.new.kept.items _ (omega arith) kept c.loop-number.invariant.kept;
    }
