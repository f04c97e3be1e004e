pub mod Charted
pub mod Shown
pub mod laws
