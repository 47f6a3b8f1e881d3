pub mod TripLemmas
pub mod PieceLemmas
pub mod JsonLemmas
pub mod WrittenLemmas
pub mod TextLemmas
