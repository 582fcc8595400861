pub mod Ended
pub mod Follow
pub mod Lines
pub mod Print
pub mod Steps
