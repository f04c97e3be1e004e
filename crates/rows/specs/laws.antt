pub mod Bits
pub mod Slots
pub mod Sets
