pub mod Value
pub mod laws
