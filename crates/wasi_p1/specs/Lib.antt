pub mod Answer
pub mod Memory
pub mod Replies
