pub mod Sides
pub mod Forces
pub mod Mix
pub mod Cube
pub mod Weak
