pub mod WhyLemmas
pub mod PlainLemmas
pub mod ReadLemmas
