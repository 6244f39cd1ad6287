pub mod Turns
pub mod TakeLaws
pub mod SendLaws
pub mod GatherLaws
pub mod TeamLaws
mod CrossLaws
