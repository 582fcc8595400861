pub mod Known
pub mod Bytes
