pub mod Came
pub mod Net
pub mod Parts
pub mod Places
pub mod Whole
