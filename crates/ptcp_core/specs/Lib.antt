pub mod Clocks
pub mod Honest
pub mod Messages
