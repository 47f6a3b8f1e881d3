pub mod ServiceLemmas
pub mod ViewLemmas
pub mod KeepLemmas
pub mod CounterLemmas
pub mod BatchLemmas
