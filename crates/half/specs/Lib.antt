pub mod Weights
pub mod Half
pub mod laws
