pub mod Form
pub mod Reads
pub mod Header
pub mod Secret
pub mod Polynomial
pub mod PublicFile
pub mod CipherFile
pub mod FileLaws
