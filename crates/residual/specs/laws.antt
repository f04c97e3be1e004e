pub mod Taken
pub mod TakenAll
pub mod Started
pub mod Left
pub mod Shown
