pub mod Paths
pub mod Reach
pub mod Gains
pub mod Sends
pub mod Region
pub mod HeldApart
pub mod PartialSums
