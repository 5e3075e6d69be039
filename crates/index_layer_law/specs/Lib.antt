pub mod Turnings
pub mod Layers
pub mod Laws
pub mod Beginnings
-- crates below, for those above that name them through this one
pub use Rattle.updater_row_law.specs.tree_update
pub use Rattle.updater_row_law.specs.search_layer
pub use Rattle.updater_row_law
