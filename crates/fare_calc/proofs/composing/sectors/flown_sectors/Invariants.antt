use Rattle.std.proofs.Common.{◌≡◌, ◌++◌, ◌+◌, ◌≤◌, true, length}
use Rattle.std.specs.List.{list_all}
use Rattle.fare_line.specs.Line.{is_flown}
use Rattle.fare_calc.specs.LineOf.{flown_from}
use Rattle.fare_calc.proofs.composing.sectors.flown_sectors.Given as goal

abbrev pub invariant-loop-number : goal.invariant-loop-number
invariant-loop-number l = record {
  few : length l.flown.items ≤ l.number;
  form : list_all is_flown l.flown.items ≡ true;
  kept : l.flown.items ++ flown_from l.trip (l.number + 1) ≡ flown_from l.trip 1;
}
