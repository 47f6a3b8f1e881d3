pub mod Chain
pub mod SharedDays
