pub mod SendingLemmas
pub mod LengthLemmas
pub mod TokenLemmas
pub mod RequestLemmas
pub mod ServingLemmas
pub mod BringsLemmas
