pub mod Claims
pub mod Events
pub mod ClaimStages
pub mod Laws
pub mod Gone
