pub mod Sizes
pub mod Sums
pub mod Digits
pub mod Steps
pub mod Rows
