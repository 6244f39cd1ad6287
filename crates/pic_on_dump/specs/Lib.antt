pub mod DumpReading
pub mod Resume
pub mod Stops
pub mod Upgrade
pub mod Verdict
pub mod Verify
