pub mod Scheme
pub mod Keys
pub mod Ciphers
pub mod SchemeLaws
