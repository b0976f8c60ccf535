pub mod Aes
pub mod Facts
