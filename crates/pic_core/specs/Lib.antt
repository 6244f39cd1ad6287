pub mod Inside
pub mod Events
pub mod AtStart
pub mod InTurn
