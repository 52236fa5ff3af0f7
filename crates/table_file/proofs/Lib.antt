pub mod BoundTexts
pub mod Lines
pub mod Checks
pub mod Bounding
pub mod Passing
pub mod SchemeMade
