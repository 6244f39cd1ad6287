pub mod LoadedLaws
pub mod DisplaceLaws
pub mod NoneLaws
pub mod AddedLaws
pub mod StartLaws
pub mod AnswerLaws
pub mod CoupleSums
pub mod CoupleLaws
