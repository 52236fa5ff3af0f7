pub mod Choices
pub mod Halves
pub mod Ones
pub mod Words
