pub mod Next
pub mod Slots
pub mod Placed
