pub mod Shown
pub mod Apart
pub mod Keeping
pub mod Flagged
