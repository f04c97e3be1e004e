pub mod Opened
pub mod Forcing
pub mod Keepable
pub mod Stepping
pub mod Items
pub mod Rounds
