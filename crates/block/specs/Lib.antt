pub mod Bytes
pub mod Field
pub mod FieldLaws
pub mod Tables
pub mod Value
