pub mod Answered
pub mod Public
