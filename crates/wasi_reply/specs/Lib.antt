pub mod Field
pub mod Promises
pub mod Lines
pub mod Outputs
pub mod Piece
pub mod Reply
pub mod Texts
pub mod laws
