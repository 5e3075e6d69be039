pub mod Crash
pub mod Rest
-- crates below, for those above that name them through this one
pub use Rattle.index_layer_law
pub use Rattle.image_layer_rules
