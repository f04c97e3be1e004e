pub mod Limits
pub mod laws
