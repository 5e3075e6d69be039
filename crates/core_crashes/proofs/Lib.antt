pub mod Settled
mod Failing
mod CrashMaps
mod Played
pub mod Turnless
