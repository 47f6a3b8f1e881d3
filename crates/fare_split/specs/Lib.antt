pub use Rattle.fare_branch.specs.Search
pub mod PriceWord
pub mod NoWord
pub mod Rows
pub mod Workers
pub mod Sharing
