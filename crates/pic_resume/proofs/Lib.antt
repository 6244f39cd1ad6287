pub mod KeptLaws
pub mod BehindLaws
pub mod EndLaws
pub mod HeadLaws
pub mod CarryLaws
