pub mod Graph
pub mod Nought
pub mod Transposed
