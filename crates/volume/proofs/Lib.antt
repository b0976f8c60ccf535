pub mod Keyed
pub mod Public
