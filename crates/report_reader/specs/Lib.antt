pub mod Faults
pub mod Fields
pub mod Answers
pub mod Heads
pub mod Parts
pub mod Reading
pub mod Laws
