pub mod BoundLemmas
pub mod CostLemmas
pub mod CoverLemmas
