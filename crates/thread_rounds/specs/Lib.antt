pub mod Gathered
pub mod Made
pub mod Played
pub mod RunRounds
-- crates below, for those above that name them through this one
pub use Rattle.pac_index.specs.index_core
