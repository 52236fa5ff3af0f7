pub mod Element
pub mod Combination
pub mod Laws
pub mod FrobeniusLaw
pub mod Checks
