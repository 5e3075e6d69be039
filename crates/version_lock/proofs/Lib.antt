pub mod VersionFacts
pub mod HistoryFacts
pub mod WordTests
