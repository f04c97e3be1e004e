pub mod Charges
pub mod laws
