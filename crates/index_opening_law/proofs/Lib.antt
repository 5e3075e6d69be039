pub mod Opened
pub mod Footing
pub mod Layering
