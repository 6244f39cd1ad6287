pub mod Emptied
pub mod Laid
pub mod Shelves
