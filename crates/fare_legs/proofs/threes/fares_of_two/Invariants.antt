-- none of the fares so far may be one of three in a unit
use Rattle.fare_legs.specs.Threes.{AreOfTwo}
use Rattle.fare_legs.proofs.threes.fares_of_two.Given as goal

abbrev pub invariant-loop-place : goal.invariant-loop-place
invariant-loop-place l = AreOfTwo l.table.edition l.table.trip l.fares
