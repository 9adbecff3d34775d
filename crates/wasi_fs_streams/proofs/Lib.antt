pub mod RunFacts
pub mod WriteFacts
pub mod EntryFacts
pub mod DirFacts
