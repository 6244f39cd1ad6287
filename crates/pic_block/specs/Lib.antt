pub mod Cells
pub mod Among
pub mod Weak
pub mod Block
pub mod Rows
pub mod Fours
pub mod Lending
pub mod BlockLayers
