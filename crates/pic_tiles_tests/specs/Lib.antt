pub mod Particles
pub mod SmallMaps
