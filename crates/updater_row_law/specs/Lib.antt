pub mod Columns
pub mod RowStages
pub mod RowSteps
pub mod Turnings
pub mod RowLaw
-- crates below, for those above that name them through this one
pub use Rattle.search_layer.specs.tree_row
pub use Rattle.search_layer.specs.tree_update
pub use Rattle.search_layer
