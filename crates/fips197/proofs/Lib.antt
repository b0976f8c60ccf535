pub mod Bytes
pub mod Schedule
pub mod Facts
pub mod Bounds
pub mod Twice
