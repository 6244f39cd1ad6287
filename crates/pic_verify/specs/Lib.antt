pub mod Stops
pub mod Verified
pub mod Verifies
pub mod Meaning
pub mod Reached
pub mod Readable
pub mod SmallDump
