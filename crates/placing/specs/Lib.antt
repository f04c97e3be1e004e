pub mod Next
pub mod laws
