pub mod PathFacts
pub mod ComponentFacts
pub mod NameFacts
pub mod UnitFacts
