pub mod Arrays
pub mod Instructions
pub mod Operations
pub mod SlotsText
