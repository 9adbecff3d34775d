-- What holds of every valid script.
pub mod Distinct
pub mod GeneratedValid
pub mod Rows
pub mod Standing
pub mod TimeFacts
