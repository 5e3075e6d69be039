pub mod Positions
pub mod WayLemmas
pub mod NodesGo
pub mod Lengthening
pub mod Short
