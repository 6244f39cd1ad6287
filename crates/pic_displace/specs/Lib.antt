pub mod Displace
pub mod Couples
