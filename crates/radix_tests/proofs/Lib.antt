pub mod LargeBasis
pub mod SmallBasis
