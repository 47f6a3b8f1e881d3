pub mod ReachLemmas
pub mod FloorLemmas
pub mod CountryLemmas
pub mod RuleLemmas
pub mod LeastLemmas
pub mod LegLemmas
pub mod OwedLemmas
pub mod ThreeLemmas
