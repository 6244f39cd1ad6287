pub mod Smoothing
pub mod Runs
pub mod Kept
