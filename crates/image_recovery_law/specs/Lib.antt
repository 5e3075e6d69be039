pub mod Columns
pub mod Stages
pub mod Laws
pub mod Rest
pub mod Moves
pub mod Rows
pub mod RowMoves
pub mod SoundImages
-- crates below, for those above that name them through this one
pub use Rattle.updater_row_law.specs.search_layer
pub use Rattle.updater_row_law
pub use Rattle.image_rules
