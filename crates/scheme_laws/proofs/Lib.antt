pub mod LevelRows
pub mod Drawn
pub mod NormCounts
pub mod SizesMade
pub mod Fresh
pub mod Decrypting
