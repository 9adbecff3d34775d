pub mod ReaderFacts
