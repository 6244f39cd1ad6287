pub mod DeckEnd
pub mod DeckReading
pub mod Opened
pub mod Stages
pub mod Starting
pub mod Stops
