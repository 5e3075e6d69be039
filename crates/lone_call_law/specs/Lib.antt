pub mod There
pub mod Splitting
pub mod Merging
pub mod MergeStands
pub mod Tries
pub mod Rooms
pub mod LoneCalls
pub mod Targets
pub mod Locks
pub mod Shapes
-- crates below, for those above that name them through this one
pub use Rattle.split_merge
pub use Rattle.node_ops
