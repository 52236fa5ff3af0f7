pub mod Kinds
pub mod Names
pub mod Elements
pub mod Text
pub mod WellFormed
pub mod Printed
pub mod Program
