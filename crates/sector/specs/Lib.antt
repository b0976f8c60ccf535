pub mod Calls
pub mod Opening
pub mod Marked
pub mod Demand2
pub mod Before
