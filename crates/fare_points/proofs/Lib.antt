pub mod Highest
pub mod Ranges
pub mod Scans
pub mod Stretches
