-- the trip that is made is the one of the definition
use Rattle.fare_drill.proofs.TripMade.{drill_trip_is_made}
use Rattle.fare_drill.proofs.trip.drill_trip.Goals as goal

pub returns : goal.returns
returns c =
    let made = drill_trip_is_made c.args.sectors c.requires.some c.requires.few in
    cc
