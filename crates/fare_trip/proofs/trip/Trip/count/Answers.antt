use Rattle.std.proofs.Common.{arith}
use Rattle.fare_trip.proofs.TripLemmas.{made_of}
use Rattle.fare_trip.proofs.trip.Trip.count.Goals as goal

pub returns-clause-some : goal.returns-clause-some
returns-clause-some c = omega (arith, (made_of _ _ _ _ c.self.invariant).some)
