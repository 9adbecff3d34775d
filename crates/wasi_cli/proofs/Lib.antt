pub mod TurnFacts
pub mod TurnLaws
