-- the parts so far go on within the trip
use Rattle.fare_floors.specs.Floors.{IsMadeWith}
use Rattle.fare_branch.proofs.descent.front_of.Given as goal

abbrev pub invariant-loop-i : goal.invariant-loop-i
invariant-loop-i l = IsMadeWith l.table l.front
