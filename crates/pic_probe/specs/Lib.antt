pub mod ProbeLine
pub mod Columns
