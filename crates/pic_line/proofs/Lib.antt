pub mod LineLaws
pub mod NumberLaws
pub mod RowLaws
pub mod StandLaws
pub mod TakenLaws
pub mod WorkerLaws
