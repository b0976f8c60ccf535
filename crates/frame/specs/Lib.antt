pub mod Frame
pub mod Lines
