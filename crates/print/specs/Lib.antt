pub mod Page
pub mod Put
