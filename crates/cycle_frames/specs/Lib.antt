pub mod Bytes
pub mod Came
