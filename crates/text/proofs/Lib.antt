pub mod Digits
pub mod Stretches
