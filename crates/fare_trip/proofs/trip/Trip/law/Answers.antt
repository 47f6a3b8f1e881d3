use Rattle.std.proofs.Common.{◌≡◌, Ok, subst}
use Rattle.fare_trip.specs.Itinerary.{Itinerary}
use Rattle.fare_trip.specs.Trip.{make_trip, IsTrip}
use Rattle.fare_trip.proofs.TripLemmas.{is_trip}
use Rattle.fare_trip.proofs.trip.Trip.law.Goals as goal

pub returns-clause-ordered : goal.returns-clause-ordered
returns-clause-ordered c =
    let inside = c.self.inside in
    subst IsTrip c.self.view_is (is_trip (record { sale = inside.sale; from = inside.from; sectors = inside.sectors.items }) c.self.invariant)

pub returns-clause-makes : goal.returns-clause-makes
returns-clause-makes c =
    let P : Itinerary → Type 0 = λ trip. make_trip trip.sale trip.from trip.sectors ≡ Ok trip in
    subst P c.self.view_is c.self.invariant
