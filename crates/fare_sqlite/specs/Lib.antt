pub mod EditionTable
pub mod Bodies
pub mod Ours
pub mod Kept
pub mod State
pub mod Found
pub mod Named
