pub mod WordLemmas
pub mod RangeLemmas
pub mod EarliestLemmas
pub mod SettleLemmas
pub mod AnswerLemmas
