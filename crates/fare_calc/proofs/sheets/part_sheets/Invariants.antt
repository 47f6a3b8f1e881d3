-- the sheets of the parts before this one are kept
use Rattle.std.proofs.Common.{◌≡◌, ◌++◌, ◌+◌, ◌≤◌, length}
use Rattle.std.specs.List.{All, filter_map}
use Rattle.fare_rules.specs.Numbers.{numbers}
use Rattle.fare_calc.specs.LineOf.{FitsLine}
use Rattle.fare_calc.specs.PartSheets.{part_sheets, sheet_of_part}
use Rattle.fare_calc.proofs.sheets.part_sheets.Given as goal

abbrev pub invariant-loop-k : goal.invariant-loop-k
invariant-loop-k l = record {
  few : length l.sheets.items ≤ l.k;
  fit : All FitsLine l.sheets.items;
  kept : l.sheets.items ++ filter_map (sheet_of_part l.edition l.trip l.c) (numbers (l.k + 1) (length l.c + 1)) ≡ part_sheets l.edition l.trip l.c;
}
