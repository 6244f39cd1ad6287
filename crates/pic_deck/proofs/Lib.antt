pub mod TileLaws
pub mod ContentLaws
pub mod InitialLaws
pub mod ForceLaws
pub mod HeadLaws
pub mod ReadingLaws
