pub mod First
pub mod Shown
pub mod Branch
pub mod laws
