pub mod Lists
pub mod Drive
pub mod Probes
pub mod Devices
