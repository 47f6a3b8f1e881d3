pub mod Steps
pub mod Limits
pub mod Definitions
pub mod Options
pub mod Values
pub mod Commands
pub mod WithinLimits
pub mod Words
