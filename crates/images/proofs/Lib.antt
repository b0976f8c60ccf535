pub mod Parts
pub mod Rooms
pub mod Sealed
