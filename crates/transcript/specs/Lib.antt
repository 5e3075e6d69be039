pub mod Chains
pub mod Looks
pub mod Spans
pub mod Calls
pub mod Ends
pub mod Rules
pub mod Legality
