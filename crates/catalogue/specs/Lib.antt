pub mod Catalogue
pub mod laws
