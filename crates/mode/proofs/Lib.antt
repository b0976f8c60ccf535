pub mod Sizes
pub mod Blockwise
pub mod Laws
pub mod KeyFacts
pub mod Preparing
pub mod TweakFacts
