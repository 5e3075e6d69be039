pub mod Openings
-- crates below, for those above that name them through this one
pub use Rattle.image_recovery_law
