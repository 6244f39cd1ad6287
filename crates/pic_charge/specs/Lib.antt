pub mod Charge
pub mod ChargeRoom
pub mod Gauss
pub mod Spread
pub mod Sums
