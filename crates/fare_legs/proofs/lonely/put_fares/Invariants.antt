-- the rule of none of the fares so far combines end on end with itself
use Rattle.fare_legs.specs.Lonely.{AreLonely}
use Rattle.fare_legs.proofs.lonely.put_fares.Given as goal

abbrev pub invariant-loop-entry : goal.invariant-loop-entry
invariant-loop-entry l = AreLonely l.table.edition l.fares
