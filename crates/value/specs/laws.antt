pub mod Values
pub mod Whole
