pub mod Kept
pub mod Forced
