pub mod Statuses
pub mod Files
pub mod Reports
pub mod Runs
pub mod Headline
pub mod Refused
-- crates below, for those above that name them through this one
pub use Rattle.crowd_rounds.specs.index_core
