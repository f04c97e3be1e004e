pub mod Bound
pub mod laws
