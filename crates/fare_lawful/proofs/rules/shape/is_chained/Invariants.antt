-- what is left answers as the whole
use Rattle.std.proofs.Common.{◌≡◌, drop}
use Rattle.fare_rules.specs.Shape.{is_chained}
use Rattle.fare_lawful.proofs.rules.shape.is_chained.Given as goal

abbrev pub invariant-loop-i : goal.invariant-loop-i
invariant-loop-i l = is_chained l.trip l.parts (drop l.i l.own) ≡ is_chained l.trip l.parts l.own
