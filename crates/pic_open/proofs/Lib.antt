pub mod DisplacedLaws
pub mod OpenedLaws
pub mod StartLaws
pub mod TakenLaws
