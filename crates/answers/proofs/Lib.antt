pub mod Rules
pub mod Keys
pub mod Shapes
pub mod Passing
pub mod Numbers
