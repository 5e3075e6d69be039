pub mod Columns
pub mod Steps
pub mod Sorting
pub mod Frames
pub mod Reading
pub mod Loads
