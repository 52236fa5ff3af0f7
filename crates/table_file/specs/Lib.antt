pub mod Setting
pub mod Faults
pub mod Accepted
pub mod Summary
pub mod Shown
pub mod SchemeLaw
