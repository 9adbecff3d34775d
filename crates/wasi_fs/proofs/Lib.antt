mod OutcomeFacts
mod KeptFacts
pub mod MadeFacts
mod ListFacts
pub mod StayFacts
mod StoreFacts
mod StoredFacts
