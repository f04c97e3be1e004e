pub mod BreaksLaws
pub mod LineAtLaws
pub mod LineLaws
