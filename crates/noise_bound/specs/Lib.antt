pub mod Form
pub mod Groups
pub mod Machine
pub mod Rounding
pub mod Table
pub mod Text
pub mod Value
