pub mod TwinWords
pub mod CrashLaw
pub mod CachedWords
pub mod RestRules
pub mod RestLayer
pub mod RestLaw
