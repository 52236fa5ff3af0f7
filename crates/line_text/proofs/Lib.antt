pub mod FileTexts
pub mod LineLemmas
pub mod NameTests
pub mod NumberLemmas
pub mod PieceLemmas
pub mod RoundTrips
pub mod SeedLemmas
pub mod SeedTexts
