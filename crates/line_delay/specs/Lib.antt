pub mod Honest
pub mod Line
