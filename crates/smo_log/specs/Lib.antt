pub mod LogLines
pub mod Takes
pub mod Opens
pub mod States
pub mod Reads
pub mod Laws
