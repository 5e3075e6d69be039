pub mod Bytes
pub mod Digits
pub mod Packing
pub mod WordOrder
