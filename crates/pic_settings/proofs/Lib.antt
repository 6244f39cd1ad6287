pub mod GridLaws
pub mod TileLaws
