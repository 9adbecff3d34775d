pub mod Sockets
pub mod Entries
pub mod Filesystem
pub mod Pushes
