pub mod ByName
pub mod Taking
pub mod Tying
