pub mod Survey
pub mod Version
pub mod Sectors
pub mod ZeroHash
