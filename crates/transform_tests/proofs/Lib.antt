pub mod Checked
pub mod Tested
