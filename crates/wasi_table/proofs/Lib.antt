pub mod RowFacts
pub mod Recounts
pub mod TableFacts
pub mod Steps
