-- the parts so far
use Rattle.std.proofs.Common.{◌≡◌, take}
use Rattle.fare_floors.proofs.partial.copied.Given as goal

abbrev pub invariant-loop-part : goal.invariant-loop-part
invariant-loop-part l = l.copied ≡ take l.part-index l.parts
