pub mod FieldFacts
pub mod ReadBackFacts
pub mod RestoredFacts
pub mod RewritingFacts
pub mod SlotFacts
pub mod WindowFacts
