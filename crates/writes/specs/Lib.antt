pub mod Write
pub mod Meaning
pub mod History
pub mod Lists
pub mod Witness
