pub mod Digits
pub mod Printing
pub mod Refusals
pub mod Showing
pub mod ZeroHash
