pub mod Appended
pub mod Each
pub mod Length
pub mod Bytes
