pub mod NodeMarks
pub mod Orders
pub mod Opened
pub mod Crashed
pub mod Breaks
pub mod OpenedCores
