pub use Rattle.fare_trip.specs.Itinerary
pub use Rattle.fare_tariff.specs.Tariff
pub use Rattle.fare_book.specs.Book
pub use Rattle.fare_why.specs.Reasons
pub mod WhyData
pub mod Spelled
pub mod Plain
pub mod Counts
