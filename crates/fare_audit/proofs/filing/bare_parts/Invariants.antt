-- the parts before this one are there
use Rattle.std.proofs.Common.{◌≡◌, length, map, take}
use Rattle.fare_audit.specs.Filing.{bare_part}
use Rattle.fare_audit.proofs.filing.bare_parts.Given as goal

abbrev pub invariant-loop-part : goal.invariant-loop-part
invariant-loop-part l = record {
  count : length l.bare ≡ l.part-index;
  made : l.bare ≡ map bare_part (take l.part-index l.line.parts);
}
