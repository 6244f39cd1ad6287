pub mod Initial
pub mod Species
pub mod Deck
pub mod Fill
pub mod Tiles
pub mod Keys
pub mod Refusal
pub mod Reading
