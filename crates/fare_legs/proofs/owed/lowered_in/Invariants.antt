-- the numbers before this point are lowered where the city comes again
use Rattle.fare_legs.proofs.OwedLemmas.{IsLowered}
use Rattle.fare_legs.proofs.owed.lowered_in.Given as goal

abbrev pub invariant-loop-home : goal.invariant-loop-home
invariant-loop-home l = IsLowered l.trip l.row l.a l.stand l.home l.number l.lowered
