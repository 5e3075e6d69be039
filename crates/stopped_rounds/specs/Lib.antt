pub mod MoreCuts
pub mod LoneStops
pub mod Bounded
pub mod InTime
pub mod Stops
pub mod Replies
