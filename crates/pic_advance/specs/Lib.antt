pub mod Phases
pub mod Blocks
pub mod Pairs
pub mod Driven
pub mod Halves
pub mod Current
