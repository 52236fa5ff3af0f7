pub mod Building
pub mod Links
pub mod Paths
pub mod Answering
pub mod Merging
pub mod RingLemmas
pub mod Unlinking
pub mod UseLaws
