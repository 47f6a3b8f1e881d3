pub use Rattle.fare_trip.specs.Itinerary
pub mod Sentence
pub mod BrokenWords
pub mod TripWords
pub mod VerdictWords
pub mod FaultWords
pub mod AuditFault
