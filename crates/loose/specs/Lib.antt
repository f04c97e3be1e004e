pub mod Loose
pub mod laws
