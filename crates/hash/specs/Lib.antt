pub mod Brw
pub mod HashFacts
pub mod Powers
