pub mod HashedKeys
pub mod Items
pub mod SharedSlots
pub mod Halved
pub mod Passed
pub mod Walked
pub mod SamePairs
