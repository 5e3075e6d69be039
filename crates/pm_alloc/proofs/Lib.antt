pub mod ClaimLaw
pub mod Alone
