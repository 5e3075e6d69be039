pub mod FieldLemmas
mod ReportTexts
pub mod ReplyLaws
pub mod ReportLaws
pub mod LoneReports
pub mod OutsideLemmas
pub mod ShelfLemmas
mod EntryLemmas
