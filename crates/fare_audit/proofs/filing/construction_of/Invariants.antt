-- the parts before this one are there
use Rattle.std.proofs.Common.{◌≡◌, ◌+◌, length, map}
use Rattle.fare_rules.specs.Numbers.{numbers}
use Rattle.fare_audit.specs.Filing.{recorded_part}
use Rattle.fare_audit.proofs.filing.construction_of.Given as goal

abbrev pub invariant-loop-i : goal.invariant-loop-i
invariant-loop-i l = record {
  count : length l.parts ≡ l.i;
  made : l.parts ≡ map (recorded_part l.edition l.trip l.line) (numbers 1 (l.i + 1));
}
