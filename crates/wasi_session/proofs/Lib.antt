pub mod ContextFacts
pub mod CountFacts
pub mod GuestFacts
pub mod LiveFacts
pub mod LoopFacts
pub mod RowFacts
