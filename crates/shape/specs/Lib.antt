pub mod Grammar
pub mod Line
pub mod LineText
pub mod Number
pub mod Scan
pub mod Shape
pub mod Trailer
