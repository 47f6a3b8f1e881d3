-- the rule of none of the fares so far combines end on end with itself
use Rattle.fare_legs.specs.Lonely.{AreLonely}
use Rattle.fare_legs.proofs.lonely.lonely_fares.Given as goal

abbrev pub invariant-loop-a : goal.invariant-loop-a
invariant-loop-a l = AreLonely l.table.edition l.fares
