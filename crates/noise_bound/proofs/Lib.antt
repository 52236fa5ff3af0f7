pub mod BalancedLaws
pub mod BoundForms
pub mod GroupLaws
pub mod RoundingLaws
pub mod Steps
pub mod TableLaws
pub mod Words
