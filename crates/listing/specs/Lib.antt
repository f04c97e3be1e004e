pub mod Appended
pub mod Listing
pub mod laws
