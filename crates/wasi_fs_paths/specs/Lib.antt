pub mod Components
pub mod Paths
pub mod Places
pub mod laws
