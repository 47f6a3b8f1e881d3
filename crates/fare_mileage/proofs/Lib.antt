pub mod Cities
pub mod Known
pub mod Search
