pub mod Marked
pub mod Laws
