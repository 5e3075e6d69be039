pub mod Rows
pub mod RowMarks
-- crates below, for those above that name them through this one
pub use Rattle.tree_law.specs.layer_map
pub use Rattle.tree_law
