pub mod Trees
pub mod Floors
pub mod FloorWalks
pub mod Switches
pub mod Rooms
pub mod Words
pub mod Paths
pub mod Stages
pub mod Fresh
pub mod Changes
pub mod Leaves
pub mod Reached
pub mod Marking
-- crates below, for those above that name them through this one
pub use Rattle.layer_map
