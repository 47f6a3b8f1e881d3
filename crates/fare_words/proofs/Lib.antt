pub mod Examples
pub mod PlainDefinitions
pub mod Parsed
