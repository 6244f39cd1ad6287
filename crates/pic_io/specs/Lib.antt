pub mod Told
pub mod Source
pub mod Sink
pub mod Sinks
pub mod Memory
pub mod Standard
