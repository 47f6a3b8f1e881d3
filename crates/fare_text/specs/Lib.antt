pub use Rattle.fare_codes.specs.Numbers
