pub mod Ranges
pub mod OwnLemmas
pub mod ShapeLemmas
pub mod UnitLemmas
pub mod AmountLemmas
