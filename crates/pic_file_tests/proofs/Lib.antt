pub mod LoopLaws
pub mod SideLaws
