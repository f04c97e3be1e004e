pub mod Decisions
pub mod laws
