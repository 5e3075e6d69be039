pub mod Own
pub mod Making
pub mod Playing
pub mod Meeting
pub mod Gathering
pub mod Turning
pub mod PlacedCounts
