pub mod LoneCalls
pub mod Rounds
pub mod CoreMaps
pub mod Summaries
pub mod Updated
pub mod Waiting
pub mod CrashWork
-- crates below, for those above that name them through this one
pub use Rattle.recovery.specs.node_ops
pub use Rattle.recovery.specs.updater
pub use Rattle.recovery.specs.updater_row_law
pub use Rattle.recovery.specs.lone_call_law
pub use Rattle.recovery.specs.lone_updater_law
pub use Rattle.recovery.specs.image_layer_rules
pub use Rattle.recovery.specs.image_recovery
pub use Rattle.recovery.specs.index_core
pub use Rattle.recovery
