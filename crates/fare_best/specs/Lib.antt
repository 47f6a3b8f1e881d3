pub use Rattle.fare_rules.specs.FirstK
pub use Rattle.fare_units.specs.Walk
pub use Rattle.fare_floors.specs.Floors
pub use Rattle.fare_floors.specs.Ahead
pub mod Walked
