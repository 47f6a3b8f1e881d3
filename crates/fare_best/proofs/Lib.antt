pub mod WalkedLemmas
pub mod OneLemmas
