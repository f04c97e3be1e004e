pub mod Search
pub mod laws
