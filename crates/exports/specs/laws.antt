pub mod Reported
pub mod Written
pub mod Sequence
pub mod Count
pub mod Limits
pub mod Search
pub mod Read
