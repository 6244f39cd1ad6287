pub mod Face
pub mod Faces
pub mod Move
pub mod Continuity
pub mod CrossingsInOrder
