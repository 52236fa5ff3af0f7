pub mod Basis
pub mod Mixed
pub mod Places
pub use Rattle.algebra.specs.Divisor
pub use Rattle.algebra.specs.Whole
pub use Rattle.mod_ring.specs.Zq
