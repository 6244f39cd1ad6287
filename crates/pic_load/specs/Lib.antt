pub mod Generator
pub mod Drawing
pub mod Loading
