pub mod Sets
pub mod Keeping
pub mod Flagged
pub mod laws
