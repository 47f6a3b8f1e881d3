-- the parts of the sheets before this one are kept
use Rattle.std.proofs.Common.{◌≡◌, true, map, take}
use Rattle.std.specs.List.{list_all}
use Rattle.fare_line.specs.Line.{is_priced}
use Rattle.fare_calc.specs.LineOf.{line_part}
use Rattle.fare_calc.proofs.composing.parts.line_parts.Given as goal

abbrev pub invariant-loop-sheet : goal.invariant-loop-sheet
invariant-loop-sheet l = record {
  form : list_all is_priced l.parts.items ≡ true;
  kept : l.parts.items ≡ map line_part (take l.sheet-index l.sheet-items);
}
