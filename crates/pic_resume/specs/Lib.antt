pub mod CarryStops
pub mod Carry
pub mod Carries
pub mod Behind
