pub mod Line
pub mod LineText
pub mod LongestFront
pub mod reader
