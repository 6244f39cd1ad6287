pub mod EndLaws
pub mod PieceLaws
pub mod PrintedLaws
