pub mod Commands
pub mod Effects
pub mod Machine
pub mod Clauses
pub mod Plain
pub mod Report
