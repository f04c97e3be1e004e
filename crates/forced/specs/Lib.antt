pub mod Forced
pub mod laws
