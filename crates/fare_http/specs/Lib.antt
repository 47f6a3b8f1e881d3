pub mod Answers
pub mod Sending
pub mod Heads
pub mod Lengths
pub mod Requests
pub mod Refusals
pub mod Serving
