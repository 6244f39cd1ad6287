pub mod TwoTermLaws
pub mod NestedLaws
pub mod PlaceLaws
pub mod MixLaws
pub mod SameLaws
pub mod LayeredLaws
pub mod HalfLaws
pub mod WordLaws
