pub mod Rows
pub mod Kept
pub mod ChangeStages
pub mod Laws
pub mod Beside
pub mod RootLine
pub mod Floors
pub mod Fresh
-- crates below, for those above that name them through this one
pub use Rattle.tree_row
pub use Rattle.tree_update
