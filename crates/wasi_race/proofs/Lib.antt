pub mod ReaderFacts
pub mod TextFacts
pub mod PlanFacts
pub mod RaceFacts
