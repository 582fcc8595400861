pub mod Opened
pub mod Begun
pub mod Started
pub mod Record
