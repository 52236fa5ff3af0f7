pub mod Values
pub mod Keys
pub mod Documents
pub mod Templates
pub mod Shapes
pub mod Written
