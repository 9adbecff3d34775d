pub mod TableError
pub mod Table
pub mod Sound
pub mod Rows
pub mod Lending
pub mod laws
