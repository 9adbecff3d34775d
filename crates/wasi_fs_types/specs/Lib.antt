pub mod ErrorCode
pub mod Flags
pub mod Names
pub mod Records
