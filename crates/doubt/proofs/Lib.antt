pub mod Values
pub mod Example
