pub mod Held
pub mod laws
