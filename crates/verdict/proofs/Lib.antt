pub mod JudgeExact
pub mod OpenExact
pub mod Cases
pub mod Sides
pub mod Judging
pub mod Opened
pub mod Numbers
