pub mod ChangeStays
mod Staying
mod Absent
mod Ends
pub mod Loads
mod Taking
mod Finishing
pub mod Turning
pub mod Acting
mod Doing
pub mod RunLaw
pub mod OthersStay
mod LoneFloor
