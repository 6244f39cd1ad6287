pub mod Energies
pub mod Line
