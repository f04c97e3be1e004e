pub mod Breaks
pub mod Lines
pub mod Result
pub mod Stored
