pub mod Apart
pub mod CallerRounds
pub mod Settling
pub mod Standing
pub mod Stopping
