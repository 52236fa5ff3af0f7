pub mod Axes
pub mod Checks
pub mod CubeLaws
pub mod Kept
pub mod Tables
pub mod Torus
pub use Rattle.algebra.specs.Divisor
pub use Rattle.algebra.specs.Whole
