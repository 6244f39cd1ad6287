pub mod Causes
pub mod Parser
pub mod Number
pub mod Reads
pub mod Fills
pub mod Bytes
pub mod Pieces
