pub mod Masks
pub mod Sides
pub mod Shown
