pub mod Places
pub mod Sorted
pub mod Stores
pub mod Bytes
pub mod Made
