pub mod Found
pub mod Answered
pub mod Searched
pub mod Shown
