pub mod Slots
pub mod Bits
pub mod Spots
pub mod Lists
pub mod Weights
pub mod RangeNames
pub mod Orders
pub mod Lines
-- crates below, for those above that name them through this one
pub use Rattle.shapes.specs.cat_history
