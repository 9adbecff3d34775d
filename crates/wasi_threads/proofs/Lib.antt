pub mod HistoryFacts
pub mod CallFacts
pub mod RoundFacts
pub mod BytesFacts
pub mod ShareFacts
pub mod PartFacts
