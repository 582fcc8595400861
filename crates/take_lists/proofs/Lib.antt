pub mod TakeLists
pub mod Recorded
