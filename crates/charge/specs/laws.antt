pub mod Charges
pub mod Shown
