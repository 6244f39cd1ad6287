pub mod FieldPhases
pub mod LeastStop
pub mod Rows
pub mod Beside
pub mod Lines
pub mod Makings
pub mod Planes
pub mod Sweeps
