pub mod Writes
pub mod Verdicts
pub mod Stages
pub mod Mends
