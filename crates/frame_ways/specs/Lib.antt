pub mod Entries
pub mod FrameWays
pub mod Layout
pub mod Stops
