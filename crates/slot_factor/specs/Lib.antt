pub mod Packing
pub mod Checks
pub mod Tables
pub mod Kept
