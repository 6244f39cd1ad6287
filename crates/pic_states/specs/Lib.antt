pub mod EachGauss
pub mod FrameStates
pub mod Frames
pub mod Rooms
pub mod Runs
pub mod StatesOutcome
