pub mod Parts
pub mod laws
