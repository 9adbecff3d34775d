pub mod KindFacts
pub mod SourceFacts
pub mod SinkFacts
pub mod StandardFacts
