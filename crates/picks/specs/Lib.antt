pub mod Picked
pub mod laws
