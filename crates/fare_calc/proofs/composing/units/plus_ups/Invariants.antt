-- the plus-ups of the units before this one are kept
use Rattle.std.proofs.Common.{◌≡◌, ◌≤◌, true, length, take}
use Rattle.std.specs.List.{filter_map, list_all}
use Rattle.fare_line.specs.Line.{is_plus}
use Rattle.fare_calc.specs.LineOf.{plus_up_of}
use Rattle.fare_calc.proofs.composing.units.plus_ups.Given as goal

abbrev pub invariant-loop-unit : goal.invariant-loop-unit
invariant-loop-unit l = record {
  few : length l.plus.items ≤ l.unit-index;
  form : list_all is_plus l.plus.items ≡ true;
  kept : l.plus.items ≡ filter_map plus_up_of (take l.unit-index l.unit-items);
}
