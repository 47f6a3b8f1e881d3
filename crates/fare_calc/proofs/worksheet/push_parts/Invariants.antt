-- the text holds the lines of the parts before this one
use Rattle.std.proofs.Common.{◌≡◌, ◌++◌, take}
use Rattle.std.specs.List.{flat_map}
use Rattle.fare_calc.specs.Worksheet.{part_lines}
use Rattle.fare_calc.proofs.worksheet.push_parts.Given as goal

abbrev pub invariant-loop-sheet : goal.invariant-loop-sheet
invariant-loop-sheet l = l.text.items ≡ l.fn.text.items ++ flat_map part_lines (take l.sheet-index l.parts)
