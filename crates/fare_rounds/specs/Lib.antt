pub mod Entries
pub mod Taking
pub mod Finishing
pub mod Rounds
