pub mod Demo
pub mod Table
