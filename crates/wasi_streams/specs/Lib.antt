pub mod Answers
pub mod MemoryPipes
pub mod Files
pub mod Pieces
pub mod Outputs
pub mod Reader
pub mod Writer
