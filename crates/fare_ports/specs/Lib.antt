pub mod Cause
pub mod Source
pub mod Sink
pub mod Keeper
pub mod Door
pub mod Memory
