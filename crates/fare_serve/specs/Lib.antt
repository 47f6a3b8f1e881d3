pub use Rattle.fare_book.specs.Book
pub use Rattle.fare_rounds.specs.Rounds
pub use Rattle.fare_rounds.specs.Taking
pub mod Service
pub mod Desk
