-- what the part costs at least with the entries so far
use Rattle.std.proofs.Common.{take}
use Rattle.fare_legs.specs.Legs.{AreLeastOf}
use Rattle.fare_legs.proofs.legs.cheapest.Given as goal

abbrev pub invariant-loop-entry : goal.invariant-loop-entry
invariant-loop-entry l = AreLeastOf l.edition l.barred (take l.entry-index l.entries) l.least
