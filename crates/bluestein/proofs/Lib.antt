pub mod Ranges
pub mod Inverse
pub mod Rooted
pub mod Bluestein
pub mod Powers
pub mod Finish
