pub mod Filled
pub mod Formulas
pub mod ReadLines
pub mod RoundTrip
pub mod TextLaws
