pub mod Verdict
pub mod Judging
