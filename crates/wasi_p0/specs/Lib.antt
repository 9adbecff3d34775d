pub mod Converted
pub mod Poll
pub mod Slot
pub mod Slots
