pub use Rattle.fare_rules.specs.FirstK
pub use Rattle.fare_units.specs.Walk
pub mod Ranking
