pub mod Arrays
pub mod Chart
