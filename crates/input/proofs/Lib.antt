pub mod Feeding
pub mod Stretches
pub mod Turns
