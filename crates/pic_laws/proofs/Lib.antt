pub mod SlowSums
pub mod IdentityLaws
pub mod ParticleLaws
pub mod LeastStrongLaws
pub mod FirstHaltLaws
mod DifferenceRows
mod GridRows
mod PhaseRows
