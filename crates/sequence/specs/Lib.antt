pub mod Edges
pub mod Padded
pub mod Sequenced
pub mod Answer
pub mod laws
