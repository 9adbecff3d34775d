pub mod Kept
pub mod Children
