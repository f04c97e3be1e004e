pub mod Spelled
pub mod Decisions
