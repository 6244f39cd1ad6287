pub mod FrameLaws
pub mod RoomLaws
pub mod RunLaws
pub mod StateLaws
