pub mod ArrivalLemmas
pub mod GatherLemmas
pub mod ViewLemmas
pub mod AnswerLemmas
pub mod RoundLemmas
pub mod OneLemmas
