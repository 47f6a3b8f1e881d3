pub mod ItemLemmas
pub mod PublishingLemmas
pub mod ReplyLemmas
