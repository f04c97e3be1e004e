pub mod PageLaws
pub mod PutLaws
