pub mod BrwLaws
mod PowersLaws
mod SliceLaws
