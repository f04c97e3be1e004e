pub mod Links
pub mod laws
