pub mod AmountLemmas
pub mod Counts
pub mod SpanLemmas
