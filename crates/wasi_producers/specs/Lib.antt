pub mod Codes
pub mod Inputs
pub mod Outputs
pub mod Iterators
pub mod Promises
