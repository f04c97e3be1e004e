pub mod Charges
pub mod Cells
pub mod Table
