pub mod ReadFacts
pub mod TellFacts
