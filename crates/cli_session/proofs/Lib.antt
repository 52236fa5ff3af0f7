pub mod ClauseLaws
pub mod Headline
pub mod Making
pub mod Quiet
pub mod Rooms
pub mod Schemes
