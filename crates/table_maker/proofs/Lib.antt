pub mod Shape
pub mod Filling
