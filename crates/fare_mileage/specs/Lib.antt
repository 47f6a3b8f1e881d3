pub use Rattle.fare_trip.specs.Itinerary
pub use Rattle.fare_tariff.specs.Tariff
pub use Rattle.fare_rules.specs.Mileage
pub mod Miles
