pub mod Made
pub mod Steps
pub mod Loads
pub mod Cycle
pub mod Rows
pub mod Fates
pub mod Room
