pub mod Shapes
