pub mod RunFacts
pub mod SoundFacts
pub mod TaskFacts
