pub mod Vector
pub mod Narrow
pub mod Pushes
pub mod SmallPush
