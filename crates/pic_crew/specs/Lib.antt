pub mod Finishing
pub mod Posting
pub mod Teams
