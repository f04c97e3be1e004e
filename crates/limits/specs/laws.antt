pub mod Limited
pub mod Padded
pub mod Answer
pub mod Promises
