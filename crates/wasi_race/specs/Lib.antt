pub mod Words
pub mod History
pub mod Races
pub mod Refusals
