pub mod Given
pub mod Filled
pub mod laws
