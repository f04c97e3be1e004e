pub mod Items
pub mod Shown
pub mod laws
