use Rattle.std.proofs.Common.{◌≡◌, ◌+◌, ◌≤◌, ◌++◌, ◌∙◌, length, ap, arith}
use Rattle.std.specs.Prelude.{Option}
use Rattle.std.specs.Option.{option_to_list}
use Rattle.fare_calc.specs.declared.part_sheet.PartSheet.{PartSheet}
use Rattle.fare_calc.specs.LineOf.{FitsLine}
use Rattle.fare_calc.specs.PartSheets.{sheet_of_part}
use Rattle.fare_calc.proofs.RangeLists.{all_hold, gather_more, length_more}
use Rattle.fare_calc.proofs.sheets.part_sheets.Goals as goal

pub loop-k-preserved : goal.loop-k-preserved
loop-k-preserved c =
    let f = sheet_of_part c.args.edition.now c.args.trip.now c.args.c.now in
    let held : length c.parts-k-end.result.now ≡ length c.args.c.now = ap length c.parts-k-end.ensures.parts in
    let kept = c.keep.ensures ∙ ap (λ (o : Option PartSheet). c.loop-k.sheets.items ++ option_to_list o) c.fitting_sheet.ensures.value in
    let longer : length c.keep.new.kept.items ≤ length c.loop-k.sheets.items + 1 = length_more c.loop-k.sheets.items c.keep.new.kept.items (f (c.loop-k.k + 1)) kept in
    record {
      few = omega (arith, c.loop-k.invariant.few);
      fit = all_hold FitsLine c.loop-k.sheets.items c.keep.new.kept.items c.fitting_sheet.result c.keep.ensures c.loop-k.invariant.fit c.fitting_sheet.ensures.fits;
      kept = gather_more f (c.loop-k.k + 1) (length c.args.c.now + 1) c.loop-k.sheets.items c.keep.new.kept.items _ (omega (arith, c.loop-k-test.true)) kept c.loop-k.invariant.kept;
    }
