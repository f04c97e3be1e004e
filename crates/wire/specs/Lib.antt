pub mod Packed
pub mod Lent
pub mod Places
pub mod laws
