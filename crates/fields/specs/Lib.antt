pub mod Record
pub mod laws
