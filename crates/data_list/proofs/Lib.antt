pub mod WalkLaw
pub mod Comings
pub mod StillWalk
pub mod HopLaw
pub mod KeyLemmas
pub mod Loading
pub mod Arriving
