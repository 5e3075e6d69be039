pub mod Lowest
pub mod Nodes
pub mod NodeSets
pub mod Rules
pub mod Sound
pub mod Laws
pub mod Weights
