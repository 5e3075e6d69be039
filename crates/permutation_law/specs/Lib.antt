pub mod Permuted
pub mod Laws
