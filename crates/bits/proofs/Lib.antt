pub mod Digits
pub mod Bits
