pub mod LegLemmas
pub mod AdvanceLemmas
pub mod FilingLemmas
pub mod VerdictLemmas
pub mod DeterminedLemmas
pub mod ReadingLemmas
