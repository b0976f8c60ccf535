pub mod Checks
pub mod Surveying
pub mod Listing
