pub mod Bits
pub mod Ones
pub mod Sets
pub mod laws
