pub mod FenceLaw
pub mod LineLaw
pub mod Staying
