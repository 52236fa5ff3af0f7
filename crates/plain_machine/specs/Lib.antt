pub mod PlainState
pub mod Carrying
pub mod CarryingLaws
pub mod Lower
