pub mod Adds
pub mod CellFlux
pub mod Corners
pub mod Spans
