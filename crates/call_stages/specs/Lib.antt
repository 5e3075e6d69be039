pub mod Stages
pub mod Kinds
pub mod Lines
pub mod AnySteps
pub mod Prevs
pub mod Orders
pub mod Footings
pub mod Views
pub mod Watches
-- crates below, for those above that name them through this one
pub use Rattle.layer_map
pub use Rattle.data_node
