pub mod RowColumns
pub mod RowStores
pub mod RowChanges
pub mod RowTurns
pub mod RowActions
pub mod RowEvicts
pub mod RowCrash
