pub mod CycleFacts
pub mod DrawFacts
pub mod KnownFacts
