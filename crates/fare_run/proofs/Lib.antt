pub mod ToldLemmas
pub mod ProgramLemmas
pub mod WithinLemmas
pub mod OpenedLemmas
