use Rattle.std.proofs.Common.{◌≡◌, ◌++◌, drop, length, true}
use Rattle.fare_line.specs.Line.{are_parts}
use Rattle.fare_line.specs.LineText.{parts_text}
use Rattle.fare_line.proofs.printing.push_parts.Given as goal

abbrev pub invariant-loop-part : goal.invariant-loop-part
invariant-loop-part l = record {
  shared : are_parts l.begun (length l.rest) (drop l.part-index l.parts) ≡ true;
  written : l.text.items ++ parts_text l.begun l.rest (drop l.part-index l.parts) ≡ l.fn.text.items ++ parts_text 0 l.sectors l.parts;
}
