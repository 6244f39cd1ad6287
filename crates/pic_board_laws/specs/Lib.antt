pub mod StandsFor
pub mod BoardSteps
pub mod Histories
pub mod Laws
