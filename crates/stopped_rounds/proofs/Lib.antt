pub mod MoreCutsLemmas
pub mod LoneStopLemmas
pub mod ScanStops
pub mod Came
pub mod Replying
pub mod Stopping
pub mod Turns
pub mod Timing
