pub mod Words
pub mod Starting
pub mod Counting
pub mod Checks
pub mod MapFacts
