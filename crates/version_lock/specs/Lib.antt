pub mod Versions
pub mod Histories
