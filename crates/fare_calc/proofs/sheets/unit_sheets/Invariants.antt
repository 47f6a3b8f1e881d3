-- the units before this one are kept
use Rattle.std.proofs.Common.{◌≡◌, ◌++◌, ◌+◌, ◌≤◌, length, map}
use Rattle.std.specs.List.{All}
use Rattle.fare_rules.specs.Numbers.{numbers}
use Rattle.fare_rules.specs.Construction.{greatest_unit, places}
use Rattle.fare_calc.specs.UnitSheets.{FitsUnit, numbered_unit, unit_sheets}
use Rattle.fare_calc.proofs.sheets.unit_sheets.Given as goal

abbrev pub invariant-loop-unit : goal.invariant-loop-unit
invariant-loop-unit l = record {
  few : length l.units.items ≤ l.unit;
  fit : All FitsUnit l.units.items;
  kept : l.units.items ++ map (numbered_unit l.edition l.trip l.c) (numbers (l.unit + 1) (greatest_unit l.c (places l.c) + 1)) ≡ unit_sheets l.edition l.trip l.c;
}
