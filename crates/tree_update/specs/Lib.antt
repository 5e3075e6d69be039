pub mod Changes
pub mod ChangeStays
pub mod Sets
pub mod Knowns
pub mod Stages
pub mod Runs
pub mod Kinds
pub mod Alone
-- crates below, for those above that name them through this one
pub use Rattle.tree_look
pub use Rattle.tree_change
