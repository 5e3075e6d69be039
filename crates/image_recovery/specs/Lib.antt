pub mod Plans
pub mod Storings
pub mod Makings
pub mod MakingLaw
pub mod Recovered
pub mod Recoveries
-- crates below, for those above that name them through this one
pub use Rattle.image_recovery_law.specs.updater_row_law
pub use Rattle.image_recovery_law
