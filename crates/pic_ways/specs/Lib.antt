pub mod Way
pub mod Margin
pub mod Room
