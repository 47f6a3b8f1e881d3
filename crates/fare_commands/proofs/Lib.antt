pub mod MigrationLemmas
pub mod PublicationLemmas
