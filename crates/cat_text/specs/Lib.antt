pub mod Reports
pub mod ReportLines
pub mod ReportGrammar
pub mod Outside
pub mod OutsideMemory
pub mod Shelves
pub mod Summaries
pub mod WordLines
