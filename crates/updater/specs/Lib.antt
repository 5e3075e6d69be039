pub mod Takings
pub mod Works
pub mod Laws
pub mod Events
pub mod Doings
pub mod Steps
pub mod Watches
pub mod Makings
-- crates below, for those above that name them through this one
pub use Rattle.updater_row_law
