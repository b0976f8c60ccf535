pub mod Sealing
pub mod KeyFacts
pub mod TweakFacts
pub mod Scheme
pub mod Transforms
pub mod Prepared
pub mod Lent
