pub mod Cycle
pub mod Draws
pub mod Generators
pub mod Known
pub mod Refused
