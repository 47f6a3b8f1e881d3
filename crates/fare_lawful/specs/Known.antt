-- A table whose amounts are those of a trip in an edition.
use Rattle.std.specs.Prelude.{◌≡◌}
use Rattle.fare_trip.specs.Itinerary.{Itinerary}
use Rattle.fare_tariff.specs.Tariff.{Tariff}
use Rattle.fare_component.specs.Table.{Pricing}

-- a table is of an edition and a trip
abbrev pub IsOf : Tariff → Itinerary → Pricing → Type 0
IsOf tariff trip pricing = pricing ≡ record { edition = tariff; trip = trip }
