pub mod FirstLaws
pub mod SmallMapLaws
