pub mod Marking
pub mod Calls
pub mod Meaning
pub mod Rule
pub mod Clear
pub mod History
