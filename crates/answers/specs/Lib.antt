pub mod Answers
pub mod Rules
pub mod Keys
pub mod Passing
pub mod Lent
