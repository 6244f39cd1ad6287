pub mod Links
pub mod Left
