pub mod Rows
pub mod Whole
pub mod RowLaws
pub mod Values
pub mod ValueLaws
pub mod Kept
pub mod KeptLaws
