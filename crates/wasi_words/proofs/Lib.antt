pub mod Cuts
pub mod NumberFacts
