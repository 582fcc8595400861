pub mod Run
pub mod Ends
pub mod Apps
pub mod Each
pub mod InLockstep
pub mod Opened
pub mod Logs
