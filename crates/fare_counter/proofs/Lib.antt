pub mod WalkLemmas
pub mod PathLemmas
pub mod StepLemmas
