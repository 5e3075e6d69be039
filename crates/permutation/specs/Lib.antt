pub mod Permutations
pub mod Sortings
pub mod Stores
pub mod Loads
pub mod Sparing
