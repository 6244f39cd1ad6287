pub mod Bounds
pub mod WalkLaws
