pub mod Covers
pub mod Covered
pub mod Facts
pub mod TurnStages
pub mod TurnSteps
pub mod OtherSteps
pub mod Lawful
pub mod Fresh
pub mod Laws
pub mod Traces
pub mod Lone
-- crates below, for those above that name them through this one
pub use Rattle.tree_law
