pub mod AddsLaws
pub mod OnlyLaws
pub mod EdgeLaws
pub mod CornerLaws
pub mod FluxSizeLaws
pub mod WeightLaws
pub mod SpanLaws
