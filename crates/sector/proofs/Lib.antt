pub mod Prepared
pub mod Public
pub mod Opening
pub mod Marked
pub mod Demand2
pub mod Before
pub mod KeyRefused
