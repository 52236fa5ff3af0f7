pub mod Tree
pub mod Convolution
pub mod Tables
pub use Rattle.algebra.specs.Range
pub use Rattle.mod_ring.specs.Zq
