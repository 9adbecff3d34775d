pub mod Pieces
pub mod Passes
pub mod History
pub mod Calls
pub mod Rounds
pub mod Ends
pub mod Collects
