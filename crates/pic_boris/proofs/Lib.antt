pub mod TurnLaws
pub mod MoveLaws
pub mod ShiftLaws
pub mod QuotientLaws
