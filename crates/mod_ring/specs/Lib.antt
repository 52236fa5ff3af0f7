pub mod Laws
pub mod Zq
pub use Rattle.algebra.specs.Ring
pub use Rattle.algebra.specs.Power
pub use Rattle.algebra.specs.Poly
pub use Rattle.algebra.specs.Whole
