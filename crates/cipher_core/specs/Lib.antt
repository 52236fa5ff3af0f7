pub mod Masked
pub mod Shown
