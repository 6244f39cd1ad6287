pub mod WalkLaws
pub mod TableLaws
pub mod LimitLaws
pub mod ArrayLaws
pub mod ListLaws
pub mod PointLaws
pub mod FillLaws
pub mod FillKindLaws
