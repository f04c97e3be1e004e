pub mod PrintLaws
pub mod SectionLaws
