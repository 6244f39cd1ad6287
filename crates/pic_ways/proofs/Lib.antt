pub mod PlaceLaws
pub mod MarginLaws
pub mod WayLaws
pub mod WaySizeLaws
