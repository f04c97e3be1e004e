pub mod Limited
pub mod Answer
pub mod laws
