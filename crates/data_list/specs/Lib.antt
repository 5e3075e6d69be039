pub mod Keys
pub mod Walks
pub mod WalkStages
pub mod Hops
pub mod Laws
pub mod Still
pub mod Arrivals
