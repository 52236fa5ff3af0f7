pub mod Slots
pub mod Checks
pub mod SlotLaws
