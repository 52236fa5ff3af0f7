pub mod Kinds
pub mod Lines
pub mod Names
pub mod Numbers
pub mod Pieces
pub mod Seeds
pub mod Words
