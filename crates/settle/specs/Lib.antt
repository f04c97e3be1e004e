pub mod Settled
pub mod laws
