pub mod FlagFacts
