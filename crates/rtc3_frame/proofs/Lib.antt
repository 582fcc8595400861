pub mod FrameLaw
pub mod RoomLaw
pub mod WriteLaw
