pub mod Sequence
pub mod Limits
pub mod Search
pub mod Read
pub mod laws
