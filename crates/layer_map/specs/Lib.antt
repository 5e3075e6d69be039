pub mod Layers
pub mod Keys
pub mod Places
-- crates below, for those above that name them through this one
pub use Rattle.cat_key
