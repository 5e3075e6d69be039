pub mod Powers
pub mod EntryForms
pub mod IndexForm
mod CellWords
pub mod Heads
mod Lookups
pub mod KeyBytes
mod Storing
mod Adding
mod Others
mod Growing
mod Pairing
pub mod GrownCells
pub mod PairCells
pub mod CellFits
pub mod FillEnds
mod FillLaw
