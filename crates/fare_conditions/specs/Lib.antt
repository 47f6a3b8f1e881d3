pub use Rattle.fare_trip.specs.Itinerary
pub use Rattle.fare_tariff.specs.Record
pub use Rattle.fare_tariff.specs.Tariff
pub use Rattle.fare_rules.specs.Terms
pub use Rattle.fare_rules.specs.ComponentAmount
pub mod Shared
pub mod Spans
pub mod Usable
