-- the sectors so far and those of the parts that are left are all
use Rattle.std.proofs.Common.{◌≡◌, ◌≤◌, ◌++◌, drop, length, true}
use Rattle.fare_line.specs.Line.{are_parts}
use Rattle.fare_audit.specs.Legs.{legs_from}
use Rattle.fare_audit.proofs.legs.legs_from.Given as goal

abbrev pub invariant-loop-part : goal.invariant-loop-part
invariant-loop-part l = record {
  room : length l.legs.items ≡ l.begun;
  within : l.begun ≤ 16;
  shared : are_parts l.begun (length l.rest) (drop l.part-index l.parts) ≡ true;
  all : l.legs.items ++ legs_from l.begun l.rest (drop l.part-index l.parts) ≡ legs_from 0 l.sectors l.parts;
}
