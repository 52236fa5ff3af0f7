pub mod Growth
pub mod CommandNames
pub mod FreshBound
pub mod Reading
pub mod Keeping
pub mod Printing
pub mod Carried
