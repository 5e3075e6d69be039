pub mod LoneTurns
pub mod CallLogs
pub mod Marks
pub mod Laws
-- crates below, for those above that name them through this one
pub use Rattle.index_layer_law.specs.search_layer
pub use Rattle.updater
pub use Rattle.index_layer_law.specs.updater_row_law
pub use Rattle.index_layer_law
pub use Rattle.lone_call_law
