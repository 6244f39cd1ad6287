pub mod SpreadLaws
pub mod NodeLaws
pub mod NodeWalkLaws
pub mod PairLaws
pub mod ChargeLaws
pub mod BreakLaws
pub mod SumLaws
pub mod RoomLaws
