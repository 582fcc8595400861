pub mod Clocks
pub mod Begun
