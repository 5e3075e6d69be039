pub mod Apart
pub mod Fencing
pub mod Kept
pub mod Made
pub mod Parts
pub mod Spelled
