-- the text holds the lines of the units before this one
use Rattle.std.proofs.Common.{◌≡◌, ◌++◌, take}
use Rattle.std.specs.List.{flat_map}
use Rattle.fare_calc.specs.Worksheet.{unit_line}
use Rattle.fare_calc.proofs.worksheet.push_units.Given as goal

abbrev pub invariant-loop-unit : goal.invariant-loop-unit
invariant-loop-unit l = l.text.items ≡ l.fn.text.items ++ flat_map unit_line (take l.unit-index l.units)
