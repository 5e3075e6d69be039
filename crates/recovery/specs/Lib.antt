pub mod Tellings
pub mod Opened
pub mod Crashed
pub mod Stops
pub mod Cores
-- crates below, for those above that name them through this one
pub use Rattle.index_core.specs.node_ops
pub use Rattle.index_core.specs.updater
pub use Rattle.image_recovery.specs.updater_row_law
pub use Rattle.index_core.specs.lone_call_law
pub use Rattle.index_core.specs.lone_updater_law
pub use Rattle.image_layer_rules
pub use Rattle.index_core.specs.index_image_law
pub use Rattle.image_recovery.specs.image_recovery_law
pub use Rattle.image_recovery
pub use Rattle.index_core
