pub mod Edges
pub mod Padded
pub mod Same
pub mod Sequenced
pub mod Answer
pub mod Promises
