pub mod Hints
pub mod laws
