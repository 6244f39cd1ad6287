pub mod ProductLaws
pub mod Ring
pub mod SizeLaws
pub mod Simpson
pub mod RoundingLaws
pub mod LeastLaws
pub mod FirstLaws
pub mod AxisLaws
pub mod VersionLaws
mod PushRows
pub mod WordLaws
