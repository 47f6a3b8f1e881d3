pub use Rattle.fare_tariff.specs.Tariff
pub use Rattle.fare_trip.specs.Itinerary
pub mod Draws
pub mod Cities
pub mod Fares
pub mod Miles
pub mod Drill
pub mod Summary
