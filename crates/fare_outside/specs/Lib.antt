pub mod Calls
pub mod Failures
pub mod Room
pub mod Objects
pub mod ListedDoor
