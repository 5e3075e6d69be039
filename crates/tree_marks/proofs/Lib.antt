mod MarkLemmas
pub mod RestLaw
