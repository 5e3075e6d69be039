pub mod Ways
pub mod LoneNodes
pub mod Short
-- crates below, for those above that name them through this one
pub use Rattle.lone_updater_law.specs.lone_call_law
pub use Rattle.lone_updater_law
