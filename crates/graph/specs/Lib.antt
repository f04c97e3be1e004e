pub mod Graph
pub mod Transposed
pub mod Shown
pub mod laws
