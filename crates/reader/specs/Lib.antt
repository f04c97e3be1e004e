pub mod Read
pub mod Verdict
