pub use Rattle.fare_component.specs.Table
pub mod Covers
pub mod Search
