pub mod CrashMaps
pub mod Power
pub mod Stops
pub mod Rounds
-- crates below, for those above that name them through this one
pub use Rattle.core_rounds.specs.image_recovery
pub use Rattle.core_rounds.specs.recovery
pub use Rattle.core_rounds
