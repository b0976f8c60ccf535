pub mod Inner
pub mod Line
pub mod ZeroHash
