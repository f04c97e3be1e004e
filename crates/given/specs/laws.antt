pub mod List
pub mod Filled
