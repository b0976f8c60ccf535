pub mod Marks
pub mod Calls
pub mod Meaning
pub mod Lists
pub mod History
