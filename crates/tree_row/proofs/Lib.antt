pub mod RowLaw
pub mod MarkLaw
pub mod FreshRow
