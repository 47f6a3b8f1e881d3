-- what is left differs where the whole does
use Rattle.std.proofs.Common.{◌≡◌, ◌+◌, drop}
use Rattle.fare_audit.specs.Legs.{difference_from}
use Rattle.fare_audit.proofs.differing.first_unlike.Given as goal

abbrev pub invariant-loop-i : goal.invariant-loop-i
invariant-loop-i l = difference_from l.trip (l.i + 1) (drop l.i l.legs) ≡ difference_from l.trip 1 l.legs
