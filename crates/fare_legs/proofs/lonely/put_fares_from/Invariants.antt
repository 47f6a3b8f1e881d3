-- the rule of none of the fares so far combines end on end with itself
use Rattle.fare_legs.specs.Lonely.{AreLonely}
use Rattle.fare_legs.proofs.lonely.put_fares_from.Given as goal

abbrev pub invariant-loop-b : goal.invariant-loop-b
invariant-loop-b l = AreLonely l.table.edition l.fares
