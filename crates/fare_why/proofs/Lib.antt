pub mod Gathered
pub mod Known
