pub mod SpeciesOfIdentity
pub mod ParticlesOfSpecies
pub mod LeastStrong
pub mod FirstHalt
