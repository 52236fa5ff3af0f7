pub mod Shoup
pub mod Wrapped
pub mod Barrett
pub mod Powers
pub mod Squares
