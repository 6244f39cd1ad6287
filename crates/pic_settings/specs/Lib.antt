pub mod Tiles
pub mod Keys
pub mod Settings
