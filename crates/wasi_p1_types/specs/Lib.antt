pub mod Errno
pub mod Flags
pub mod Records
