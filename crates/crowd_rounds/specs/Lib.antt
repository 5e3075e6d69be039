pub mod Crowds
pub mod Segments
-- crates below, for those above that name them through this one
pub use Rattle.core_crashes.specs.image_recovery
pub use Rattle.thread_rounds.specs.index_core
pub use Rattle.core_crashes.specs.recovery
pub use Rattle.core_crashes.specs.core_rounds
